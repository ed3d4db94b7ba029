use Rattle.std.proofs.Common.{ap, ◌∙◌}
use Rattle.document_answers.specs.Check.{check_text}
use Rattle.commands.proofs.OwedTexts.{shows}
use Rattle.commands.proofs.show.answer_show.Goals as goal

pub returns : goal.returns
returns c = shows c.args.program c.in_ok-text.text c.done.result c.done.ensures (c.in_ok-text.ensures ∙ ap (check_text 1) (c.program-2.ensures.program ∙ c.in_ok-shipped.ensures))
