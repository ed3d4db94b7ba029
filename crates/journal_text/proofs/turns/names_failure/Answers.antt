use Rattle.std.proofs.Common.{sym, ◌∙◌}
use Rattle.journal_text.specs.Turns.{names_failure}
use Rattle.journal_text.proofs.turns.names_failure.Goals as goal

pub returns-then-may_have_walls : goal.returns-then-may_have_walls
unfolding names_failure
returns-then-may_have_walls c = rw (sym c.may_have_walls.ensures ∙ c.if-may_have_walls.true) c.is_one_of.ensures

pub returns-else-may_have_walls : goal.returns-else-may_have_walls
unfolding names_failure
returns-else-may_have_walls c = rw (sym c.may_have_walls.ensures ∙ c.if-may_have_walls.false) c.is_one_of-else-may_have_walls.ensures
