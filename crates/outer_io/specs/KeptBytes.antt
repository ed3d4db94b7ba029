-- What a sink of a fixed room keeps of what it is given.
use Rattle.std.specs.Prelude.{◌≡◌, ℕ, ◌-◌, List, [], ◌++◌, length, take, Bool, true, ◌&&◌, nat_le, if◌then◌else◌}
use Rattle.std.specs.declared.option.Option.{Option}
use Rattle.std.specs.declared.option.Option.TheVariants.{Some, None}
use Rattle.outer_io.specs.Writings.{Handed}

-- the room in bytes, the bytes kept, and whether these are all that it was given
pub record KeptBytes : Type 0 where
  pub room : ℕ
  pub bytes : List ℕ
  pub is_whole : Bool

-- before the first write
abbrev pub nothing_kept : ℕ → KeptBytes
nothing_kept room = record { room = room; bytes = []; is_whole = true }

-- after one more piece: the front of it for which there is room is kept,
-- and what does not fit is dropped
abbrev pub kept_after : KeptBytes → List ℕ → KeptBytes
kept_after kept piece = record {
  room = kept.room;
  bytes = kept.bytes ++ take (kept.room - length kept.bytes) piece;
  is_whole = kept.is_whole && nat_le (length piece) (kept.room - length kept.bytes);
}

-- a write takes the whole piece, and makes that of the sink
abbrev pub KeepsPiece : KeptBytes → List ℕ → ℕ → KeptBytes → Type 0
KeepsPiece old piece taken new = (taken ≡ length piece) × (new ≡ kept_after old piece)

-- the bytes are told while none was dropped
abbrev pub written_of : KeptBytes → Option (List ℕ)
written_of kept = if kept.is_whole then Some kept.bytes else None

-- two pieces are kept as one that is both, one behind the other
abbrev pub PiecesAreKeptAsOne : Type 0
PiecesAreKeptAsOne = (kept : KeptBytes) (one two : List ℕ)
    → kept_after (kept_after kept one) two ≡ kept_after kept (one ++ two)

-- a text that was written whole is kept as one piece
abbrev pub TextIsKeptAsOnePiece : Type 0
TextIsKeptAsOnePiece = (old new : KeptBytes) (text : List ℕ)
    → Handed KeepsPiece old text (length text) new → new ≡ kept_after old text
