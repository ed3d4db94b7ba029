use Rattle.std.proofs.Common.{◌≡◌, ℕ, ◌<◌}
use Rattle.tri_lattice.specs.Lattice.{step}
use Rattle.tri_lattice.proofs.node.adjacent.Given as goal

-- no direction below the present one leads from a to b
abbrev pub invariant-loop-number : goal.invariant-loop-number
invariant-loop-number l = (d : ℕ) → d < l.number → l.b ≡ step l.a d → ⊥
