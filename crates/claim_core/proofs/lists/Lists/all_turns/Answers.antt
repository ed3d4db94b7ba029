use Rattle.std.proofs.Common.{◌*◌, ◌∙◌}
use Rattle.claim_core.proofs.lists.Lists.all_turns.Goals as goal

pub returns : goal.returns
returns c = λ i. (c.from.ensures ∙ c.callers.ensures.value) i * c.turns.ensures i
