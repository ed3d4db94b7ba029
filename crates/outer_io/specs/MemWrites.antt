-- What each write to a sink in memory answers.
use Rattle.std.specs.Prelude.{◌≡◌, ℕ, ◌-◌, ◌<◌, ◌≤◌, ◌⊎◌, List, [], ◌∷◌, ◌++◌, length, min, take}
use Rattle.std.specs.declared.option.Option.{Option}
use Rattle.std.specs.declared.option.Option.TheVariants.{Some, None}
use Rattle.std.specs.declared.result.Result.{Result}
use Rattle.std.specs.declared.result.Result.TheVariants.{Ok, Err}
use Rattle.outer_io.specs.CallPlans.{CallPlan, FailsNext, fresh_plan, after_good_call, after_failed_call}

-- the plan of the calls, the room for all bytes, and those that were taken
pub record PlannedRoom : Type 0 where
  pub plan : CallPlan
  pub room : ℕ
  pub bytes : List ℕ

-- before the first write
abbrev pub empty_room : CallPlan → ℕ → PlannedRoom
empty_room plan room = record { plan = plan; room = room; bytes = [] }

-- how many bytes of a piece the plan lets pass and the room has place for
abbrev pub next_count : PlannedRoom → List ℕ → ℕ
next_count old piece = min (min (length piece) old.plan.piece) (old.room - length old.bytes)

-- a write of a piece, the number of bytes that it takes, if it does not fail,
-- and what it makes of the sink
pub data MemWrite (old : PlannedRoom) (piece : List ℕ) : Option ℕ → PlannedRoom → Type 0 where
  fails : FailsNext old.plan ⊎ (old.room ≤ length old.bytes)
      → MemWrite old piece None
      (record { plan = after_failed_call old.plan; room = old.room; bytes = old.bytes })
  takes : ¬ FailsNext old.plan → length old.bytes < old.room
      → MemWrite old piece (Some (next_count old piece))
      (record {
        plan = after_good_call old.plan;
        room = old.room;
        bytes = old.bytes ++ take (next_count old piece) piece;
      })

-- the number of an answer
abbrev pub taken_of : {E : Type 0} → Result ℕ E → Option ℕ
taken_of (Ok count) = Some count
taken_of (Err _) = None

-- a write of a piece has at most one answer, and leaves the sink in one way
abbrev pub MemWritesAreOne : Type 0
MemWritesAreOne = (old : PlannedRoom) (piece : List ℕ) (one two : Option ℕ) (new other : PlannedRoom)
    → MemWrite old piece one new → MemWrite old piece two other → (one ≡ two) × (new ≡ other)

-- ---- an example

-- a room of three bytes, two in a write at most, of which write 1 fails
abbrev pub torn_room : PlannedRoom
torn_room = empty_room (fresh_plan 2 (1 ∷ [])) 3

-- the bytes in it after some calls, of which so many failed
abbrev pub torn_taken : ℕ → ℕ → List ℕ → PlannedRoom
torn_taken calls faults bytes = record {
  plan = record { piece = 2; failing = 1 ∷ []; calls = calls; faults = faults };
  room = 3;
  bytes = bytes;
}

-- writes of all that is left of four bytes: two are taken, none by plan, one,
-- and none since the room is full
pub record TornWrites : Type 0 where
  pub two : MemWrite torn_room (6 ∷ 7 ∷ 8 ∷ 9 ∷ []) (Some 2) (torn_taken 1 0 (6 ∷ 7 ∷ []))
  pub fault : MemWrite (torn_taken 1 0 (6 ∷ 7 ∷ [])) (8 ∷ 9 ∷ []) None (torn_taken 2 1 (6 ∷ 7 ∷ []))
  pub last : MemWrite (torn_taken 2 1 (6 ∷ 7 ∷ [])) (8 ∷ 9 ∷ []) (Some 1) (torn_taken 3 1 (6 ∷ 7 ∷ 8 ∷ []))
  pub full : MemWrite (torn_taken 3 1 (6 ∷ 7 ∷ 8 ∷ [])) (9 ∷ []) None (torn_taken 4 2 (6 ∷ 7 ∷ 8 ∷ []))
