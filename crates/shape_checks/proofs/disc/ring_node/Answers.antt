use Rattle.std.proofs.Common.{◌/◌, sym, subst, pos, negsuc, ◌≤ℤ◌}
use Rattle.tri_lattice.specs.declared.node.Node.{Node}
use Rattle.shape_checks.proofs.Discs.{moved_near}
use Rattle.shape_checks.proofs.disc.ring_node.Goals as goal

pub steps_away-requires-clause-x_low : goal.steps_away-requires-clause-x_low
steps_away-requires-clause-x_low c = subst (λ (v : Node). negsuc 6999 ≤ℤ v.x) (sym c.steps_away-corner.ensures) (moved_near c.args.centre (c.args.k / c.args.radius) c.args.radius c.requires.few c.requires.central).0

pub steps_away-requires-clause-x_high : goal.steps_away-requires-clause-x_high
steps_away-requires-clause-x_high c = subst (λ (v : Node). v.x ≤ℤ pos 7000) (sym c.steps_away-corner.ensures) (moved_near c.args.centre (c.args.k / c.args.radius) c.args.radius c.requires.few c.requires.central).1

pub steps_away-requires-clause-y_low : goal.steps_away-requires-clause-y_low
steps_away-requires-clause-y_low c = subst (λ (v : Node). negsuc 6999 ≤ℤ v.y) (sym c.steps_away-corner.ensures) (moved_near c.args.centre (c.args.k / c.args.radius) c.args.radius c.requires.few c.requires.central).2

pub steps_away-requires-clause-y_high : goal.steps_away-requires-clause-y_high
steps_away-requires-clause-y_high c = subst (λ (v : Node). v.y ≤ℤ pos 7000) (sym c.steps_away-corner.ensures) (moved_near c.args.centre (c.args.k / c.args.radius) c.args.radius c.requires.few c.requires.central).3
