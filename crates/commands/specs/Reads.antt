-- What the input came to in a call.
use Rattle.std.specs.Prelude.{◌≡◌, ℕ, List}
use Rattle.std.specs.declared.option.Option.{Option}
use Rattle.outer_io.specs.Told.{Rose}
use Rattle.outer_io.specs.Readings.{ReadsWhole, ReadsAbove, ReadsSome, ReadsUpToFault}

pub data Read : Type 0 where
  -- nothing was read
  nothing : Read
  -- the whole input, within the limit
  whole : List ℕ → Read
  -- a byte more than the limit
  above : List ℕ → Read
  -- these bytes, and then a read failed
  up_to_fault : List ℕ → Read
  -- these bytes, and no more was asked for
  some : List ℕ → Read

-- the source came from the one state to the other by that
module _ {S : Type 0} (left : S → Option (List ℕ)) (gives : S → List ℕ → S → Type 0)
    (fails : S → S → Type 0) (faults : S → ℕ) where
  abbrev pub IsReading : ℕ → S → S → Read → Type 0
  IsReading limit old new nothing = new ≡ old
  IsReading limit old new (whole bytes) = ReadsWhole left gives limit old new bytes
  IsReading limit old new (above bytes) = ReadsAbove left gives limit old new bytes
  IsReading limit old new (up_to_fault bytes) =
      Rose (faults old) (faults new) × ReadsUpToFault left gives fails limit old new bytes
  IsReading limit old new (some bytes) = ReadsSome left gives limit old new bytes
