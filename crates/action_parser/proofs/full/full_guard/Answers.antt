use Rattle.std.proofs.Common.{sym, ◌∙◌}
use Rattle.action_tree.specs.ExpressionReaders.{begins_unit}
use Rattle.action_parser.proofs.Fullness.{full_at_role, full_at_end}
use Rattle.action_parser.proofs.full.full_guard.Goals as goal

pub returns-in_default : goal.returns-in_default
returns-in_default c = full_at_end begins_unit c.args.levels c.args.tokens.now c.refusal.result (sym c.next_role.ensures ∙ c.in_default.is) c.refusal.ensures

pub returns : goal.returns
returns c = full_at_role begins_unit c.args.levels c.args.tokens.now c.refusal-2.result c.in-Some.role c.begins_unit.result c.kind_of.result (sym c.next_role.ensures ∙ c.in-Some.is) c.begins_unit.ensures c.kind_of.ensures c.refusal-2.ensures
