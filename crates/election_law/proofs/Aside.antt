-- The lines and the guard of `erosion` decide nothing.
use Rattle.std.proofs.Common.{◌≡◌, ◌∙◌, ℕ, Bool, ap, refl}
use Rattle.amoebot_state.specs.Configs.{Config}
use Rattle.action_tree.specs.Trees.{Program}
use Rattle.action_tree.specs.Lines.{without_lines}
use Rattle.action_tree.specs.Shipped.{erosion}
use Rattle.action_meaning.specs.Verdicts.{verdict_on}
use Rattle.action_meaning.proofs.Lineless.{verdict_ignores_lines}
use Rattle.election_law.specs.Elections.{IsErosion}
use Rattle.election_law.specs.Laws.{GuardIsAside}

-- `erosion` with the guard on or off
guarded_erosion : Bool → Program
guarded_erosion g = record erosion { guard = g }

-- the program is `erosion` with its guard, lines aside
same_bare : (p : Program) → IsErosion p → without_lines p ≡ without_lines (guarded_erosion p.guard)
unfolding guarded_erosion
same_bare p is = ap (λ (q : Program). let r : Program = record q { guard = p.guard } in r) is

-- it makes no movement, so the guard is not asked
guard_unasked : (g : Bool) (c : Config) (i : ℕ) → verdict_on (guarded_erosion g) c i ≡ verdict_on erosion c i
unfolding guarded_erosion
guard_unasked g c i = refl

pub guard_is_aside : GuardIsAside
guard_is_aside p is c i = verdict_ignores_lines p (guarded_erosion p.guard) (same_bare p is) c i ∙ guard_unasked p.guard c i
