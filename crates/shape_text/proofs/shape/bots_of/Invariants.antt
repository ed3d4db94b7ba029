use Rattle.std.proofs.Common.{◌≡◌, map, take}
use Rattle.shape_text.proofs.shape.bots_of.Given as goal

abbrev pub invariant-loop-one : goal.invariant-loop-one
invariant-loop-one l = l.bots.items ≡ map (λ b. b.bot) (take l.one-index l.written)
