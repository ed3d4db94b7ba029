-- What each read of a source in memory answers.
use Rattle.std.specs.Prelude.{◌≡◌, ℕ, ◌<◌, List, [], ◌∷◌, length, min, take, drop}
use Rattle.std.specs.declared.option.Option.{Option}
use Rattle.std.specs.declared.option.Option.TheVariants.{Some, None}
use Rattle.std.specs.declared.result.Result.{Result}
use Rattle.std.specs.declared.result.Result.TheVariants.{Ok, Err}
use Rattle.outer_io.specs.CallPlans.{CallPlan, FailsNext, fresh_plan, after_good_call, after_failed_call}

-- the plan of the calls, and the bytes that are left
pub record PlannedBytes : Type 0 where
  pub plan : CallPlan
  pub bytes : List ℕ

-- how many bytes a read of this room gives: as many as the plan lets pass and are left
abbrev pub given_count : PlannedBytes → ℕ → ℕ
given_count old room = min (min room old.plan.piece) (length old.bytes)

-- A read with room for so many bytes, the bytes that it gives, if it does not fail,
-- and what it makes of the source.
-- No byte is the end.
pub data MemRead (old : PlannedBytes) (room : ℕ) : Option (List ℕ) → PlannedBytes → Type 0 where
  fails : FailsNext old.plan
      → MemRead old room None (record { plan = after_failed_call old.plan; bytes = old.bytes })
  gives : ¬ FailsNext old.plan → MemRead old room (Some (take (given_count old room) old.bytes))
      (record { plan = after_good_call old.plan; bytes = drop (given_count old room) old.bytes })

-- the bytes of an answer, which stand at the front of the piece that was read into
abbrev pub given_of : {E : Type 0} → Result ℕ E → List ℕ → Option (List ℕ)
given_of (Ok count) piece = Some (take count piece)
given_of (Err _) piece = None

-- some read gave these bytes, and some read failed
abbrev pub MemGives : PlannedBytes → List ℕ → PlannedBytes → Type 0
MemGives old bytes new = (room : ℕ) × (0 < room) × MemRead old room (Some bytes) new

abbrev pub MemFails : PlannedBytes → PlannedBytes → Type 0
MemFails old new = (room : ℕ) × (0 < room) × MemRead old room None new

-- a read of this room has at most one answer, and leaves the source in one way
abbrev pub MemReadsAreOne : Type 0
MemReadsAreOne = (old : PlannedBytes) (room : ℕ) (one two : Option (List ℕ)) (new other : PlannedBytes)
    → MemRead old room one new → MemRead old room two other → (one ≡ two) × (new ≡ other)

-- ---- an example

-- three bytes, two in a read at most, of which read 1 fails
abbrev pub torn_bytes : PlannedBytes
torn_bytes = record { plan = fresh_plan 2 (1 ∷ []); bytes = 7 ∷ 8 ∷ 9 ∷ [] }

-- what is left of them after some calls, of which so many failed
abbrev pub torn_left : ℕ → ℕ → List ℕ → PlannedBytes
torn_left calls faults bytes =
    record { plan = record { piece = 2; failing = 1 ∷ []; calls = calls; faults = faults }; bytes = bytes }

-- reads of a room of five: two bytes, a fault, the last byte, and the end
pub record TornReads : Type 0 where
  pub two : MemRead torn_bytes 5 (Some (7 ∷ 8 ∷ [])) (torn_left 1 0 (9 ∷ []))
  pub fault : MemRead (torn_left 1 0 (9 ∷ [])) 5 None (torn_left 2 1 (9 ∷ []))
  pub last : MemRead (torn_left 2 1 (9 ∷ [])) 5 (Some (9 ∷ [])) (torn_left 3 1 [])
  pub end : MemRead (torn_left 3 1 []) 5 (Some []) (torn_left 4 1 [])
