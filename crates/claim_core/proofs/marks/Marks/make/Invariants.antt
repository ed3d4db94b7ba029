use Rattle.std.proofs.Common.{◌≡◌, [], map, vec_len}
use Rattle.std.specs.Prelude.{replicate}
use Rattle.std.specs.List.{All}
use Rattle.claim_core.specs.Rooms.{HasRoomForMarks}
use Rattle.claim_core.proofs.marks.Marks.make.Given as goal

abbrev pub invariant-loop-caller : goal.invariant-loop-caller
invariant-loop-caller l = (vec_len l.marks ≡ l._caller) × (map (λ v. v.items) l.marks.items ≡ replicate l._caller []) × All (HasRoomForMarks l.turns) l.marks.items
