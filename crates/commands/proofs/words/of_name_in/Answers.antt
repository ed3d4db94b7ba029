use Rattle.std.proofs.Common.{◌≡◌, ◌∙◌, None, ap, codes, rules}
use Rattle.std.specs.Prelude.{option_and_then}
use Rattle.clap.specs.Words.{found_of}
use Rattle.clap.proofs.WalkLemmas.{first_value-rows}
use Rattle.commands.specs.Words.{shipped, show_in}
use Rattle.commands.proofs.words.of_name_in.Goals as goal

pub returns-in_err-get_str : goal.returns-in_err-get_str
returns-in_err-get_str c =
    let none : c.from_residual.result ≡ None = search rules in
    none ∙ ap (option_and_then (show_in shipped)) (c.in_err-get_str.ensures ∙ first_value-rows (found_of c.args.arguments.now) (codes "NAME"))

pub returns : goal.returns
returns c = c.of_name.ensures ∙ ap (option_and_then (show_in shipped)) (c.in_ok-get_str.ensures ∙ first_value-rows (found_of c.args.arguments.now) (codes "NAME"))
