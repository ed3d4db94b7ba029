-- What the marks of a run keep: room for the marks of all turns.
use Rattle.std.specs.Prelude.{ℕ, ◌≤◌, List, length, Vec, vec_len, vec_capacity}
use Rattle.std.specs.List.{All}
use Rattle.std.specs.declared.alloc.Global.{Global}
use Rattle.claim_core.specs.declared.marks.Mark.{Mark}
use Rattle.claim_core.specs.Turns.{AreFew}

-- a caller's marks are no more than its turns, and there is room for the marks of all of them
pub record HasRoomForMarks (turns : ℕ) (marks : Vec Mark Global) : Type 0 where
  pub few : vec_len marks ≤ turns
  pub room : turns ≤ vec_capacity marks

pub record HaveRoom (turns : ℕ) (marks : List (Vec Mark Global)) : Type 0 where
  pub few : AreFew (length marks) turns
  pub each : All (HasRoomForMarks turns) marks
