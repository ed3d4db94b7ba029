-- What one reading got of a source, and how it ended.
use Rattle.std.specs.Prelude.{◌≡◌, ℕ, ◌+◌, ◌≤◌, List, length}
use Rattle.std.specs.declared.option.Option.{Option}
use Rattle.std.specs.Io.KnownBytes.{Consumes, IsAtEnd}
use Rattle.outer_io.specs.declared.errors.ReadError.{ReadError}
use Rattle.outer_io.specs.declared.errors.ReadError.TheVariants.{ReadFault, TooLong, NoMemory}
use Rattle.outer_io.specs.Calls.{Passed, PassedToEnd, PassedUpToFault}

-- the bytes are all that the source had left, no more than the limit: it was read to its end,
-- which the last read told, and no read failed
pub record ReadsWhole {T : Type 0} (left : T → Option (List ℕ)) (gives : T → List ℕ → T → Type 0)
    (limit : ℕ) (old new : T) (bytes : List ℕ) : Type 0 where
  pub all : Consumes (left old) (left new) bytes
  pub end : IsAtEnd (left new)
  pub within : length bytes ≤ limit
  pub reads : PassedToEnd gives old bytes new

-- one byte more than the limit was got, and no read failed or told the end
pub record ReadsAbove {T : Type 0} (left : T → Option (List ℕ)) (gives : T → List ℕ → T → Type 0)
    (limit : ℕ) (old new : T) (bytes : List ℕ) : Type 0 where
  pub all : Consumes (left old) (left new) bytes
  pub above : length bytes ≡ limit + 1
  pub reads : Passed gives old bytes new

-- no more bytes than the limit were got, and no read failed or told the end
pub record ReadsSome {T : Type 0} (left : T → Option (List ℕ)) (gives : T → List ℕ → T → Type 0) (limit : ℕ)
    (old new : T) (bytes : List ℕ) : Type 0 where
  pub all : Consumes (left old) (left new) bytes
  pub within : length bytes ≤ limit
  pub reads : Passed gives old bytes new

-- no more bytes than the limit were got, before any read told the end, and then a read failed,
-- which was the last
pub record ReadsUpToFault {T : Type 0} (left : T → Option (List ℕ)) (gives : T → List ℕ → T → Type 0)
    (fails : T → T → Type 0) (limit : ℕ) (old new : T) (bytes : List ℕ) : Type 0 where
  pub all : Consumes (left old) (left new) bytes
  pub within : length bytes ≤ limit
  pub reads : PassedUpToFault gives fails old bytes new

-- what was got where there is no document, by the reason
abbrev pub ReadsUpTo : {T : Type 0} → (T → Option (List ℕ)) → (T → List ℕ → T → Type 0) → (T → T → Type 0) → ℕ
    → ReadError → T → T → List ℕ → Type 0
ReadsUpTo left gives fails limit ReadFault old new bytes = ReadsUpToFault left gives fails limit old new bytes
ReadsUpTo left gives fails limit TooLong old new bytes = ReadsAbove left gives limit old new bytes
ReadsUpTo left gives fails limit NoMemory old new bytes = ReadsSome left gives limit old new bytes
