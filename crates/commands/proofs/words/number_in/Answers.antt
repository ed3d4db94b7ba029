use Rattle.std.proofs.Common.{◌≡◌, ◌∙◌, None, ap, codes, rules}
use Rattle.std.specs.Prelude.{option_and_then}
use Rattle.clap.specs.Words.{found_of}
use Rattle.clap.proofs.WalkLemmas.{first_value-rows}
use Rattle.commands.specs.Words.{number_of}
use Rattle.commands.proofs.words.number_in.Goals as goal

pub returns-in_err-get_str : goal.returns-in_err-get_str
returns-in_err-get_str c =
    let none : c.from_residual.result ≡ None = search rules in
    none ∙ ap (option_and_then number_of) (c.in_err-get_str.ensures ∙ first_value-rows (found_of c.args.arguments.now) (codes "NUMBER"))

pub returns : goal.returns
returns c = c.number_of.ensures ∙ ap (option_and_then number_of) (c.in_ok-get_str.ensures ∙ first_value-rows (found_of c.args.arguments.now) (codes "NUMBER"))
