use Rattle.std.proofs.Common.{ap, sym, ◌∙◌}
use Rattle.commands.specs.Words.{shipped, show_in}
use Rattle.commands.proofs.WordsLemmas.{own_name, none_shown}
use Rattle.commands.proofs.words.of_name.Goals as goal

pub returns-in-Some : goal.returns-in-Some
returns-in-Some c = sym (ap (show_in shipped) c.in-Some.ensures.some ∙ own_name c.in-Some.program)

pub returns-in-None : goal.returns-in-None
returns-in-None c = sym (none_shown c.args.name.now c.in-None.ensures.none)
