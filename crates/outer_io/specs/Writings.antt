-- What was written to a sink of a text.
use Rattle.std.specs.Prelude.{◌≡◌, ℕ, ◌+◌, ◌<◌, List, [], ◌∷◌, ◌++◌, length, take, drop}
use Rattle.std.specs.declared.option.Option.{Option}
use Rattle.outer_io.specs.Told.{Grows}

-- The first `count` bytes of a text went out in writes one after another,
-- at least one byte in each.
-- Each write was given all that was left of the text, none failed, and there was no other write.
pub data Handed {T : Type 0} (takes : T → List ℕ → ℕ → T → Type 0)
    (first : T) (text : List ℕ) : ℕ → T → Type 0 where
  none : Handed takes first text 0 first
  more : {count taken : ℕ} {mid last : T}
      → Handed takes first text count mid
      → 0 < taken
      → takes mid (drop count text) taken last
      → Handed takes first text (count + taken) last

-- the whole text went to the sink and nothing else did, and no write failed
pub record WritesAll {T : Type 0} (written : T → Option (List ℕ)) (takes : T → List ℕ → ℕ → T → Type 0)
    (old new : T) (text : List ℕ) : Type 0 where
  pub told : Grows (written old) (written new) text
  pub writes : Handed takes old text (length text) new

-- A front of the text, and not all of it, went to the sink and nothing else did.
-- Then a write failed, which was given all that was left, and it was the last.
pub record WritesFront {T : Type 0} (written : T → Option (List ℕ)) (takes : T → List ℕ → ℕ → T → Type 0)
    (fails : T → List ℕ → T → Type 0) (old new : T) (text : List ℕ) : Type 0 where
  pub count : ℕ
  pub short : count < length text
  pub told : Grows (written old) (written new) (take count text)
  pub before : T
  pub writes : Handed takes old text count before
  pub failed : fails before (drop count text) new

-- ---- examples

-- a sink that notes what each write is given, and how many bytes it took
abbrev pub NotesWrite : List (List ℕ × ℕ) → List ℕ → ℕ → List (List ℕ × ℕ) → Type 0
NotesWrite old piece taken new = new ≡ old ++ (piece, taken) ∷ []

abbrev pub three_bytes : List ℕ
three_bytes = 7 ∷ 8 ∷ 9 ∷ []

-- Two bytes of three are taken, and then the last one.
-- A first write that is given two bytes alone is none of such writes.
pub record SmallWritings : Type 0 where
  pub in_two : Handed NotesWrite [] three_bytes 3 ((7 ∷ 8 ∷ 9 ∷ [], 2) ∷ (9 ∷ [], 1) ∷ [])
  pub in_parts : ¬ Handed NotesWrite [] three_bytes 3 ((7 ∷ 8 ∷ [], 2) ∷ (9 ∷ [], 1) ∷ [])
