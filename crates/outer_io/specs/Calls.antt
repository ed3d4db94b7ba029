-- What the reads of a source did one after another.
use Rattle.std.specs.Prelude.{ℕ, ◌<◌, List, [], ◌++◌, length, take, MatchResult}
use Rattle.std.specs.declared.result.Result.{Result}

-- one read: as many bytes at the front of the piece passed as its answer says, or it failed
abbrev pub Calls : {T E : Type 0} → (T → List ℕ → T → Type 0)
    → (T → T → Type 0) → T → T → Result ℕ E → List ℕ → Type 0
Calls passes fails old new answer piece =
    MatchResult answer (λ count. passes old (take count piece) new) (λ _. fails old new)

-- these bytes passed in reads one after another, at least one in each, of which none failed,
-- and there was no other read
pub data Passed {T : Type 0} (passes : T → List ℕ → T → Type 0) (first : T) : List ℕ → T → Type 0 where
  none : Passed passes first [] first
  more : {bytes piece : List ℕ} {mid last : T}
      → Passed passes first bytes mid
      → 0 < length piece
      → passes mid piece last
      → Passed passes first (bytes ++ piece) last

-- these bytes passed in reads one after another, and then none did in one read, which was the last
pub record PassedToEnd {T : Type 0} (passes : T → List ℕ → T → Type 0)
    (first : T) (bytes : List ℕ) (last : T) : Type 0 where
  pub before : T
  pub passed : Passed passes first bytes before
  pub ended : passes before [] last

-- these bytes passed in reads one after another, and then a read failed, which was the last
pub record PassedUpToFault {T : Type 0} (passes : T → List ℕ → T → Type 0) (fails : T → T → Type 0)
    (first : T) (bytes : List ℕ) (last : T) : Type 0 where
  pub before : T
  pub passed : Passed passes first bytes before
  pub failed : fails before last
