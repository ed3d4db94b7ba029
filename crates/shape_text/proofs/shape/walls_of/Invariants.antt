use Rattle.std.proofs.Common.{◌≡◌, map, take}
use Rattle.shape_text.proofs.shape.walls_of.Given as goal

abbrev pub invariant-loop-one : goal.invariant-loop-one
invariant-loop-one l = l.walls.items ≡ map (λ w. w.node) (take l.one-index l.written)
