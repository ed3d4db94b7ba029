-- What a sink of a fixed room keeps of pieces, and of a text that was written whole.
use Rattle.std.proofs.Common.{◌≡◌, ℕ, zero, suc, ◌+◌, ◌-◌, List, [], ◌∷◌, ◌++◌, length, take, Bool, ◌&&◌, refl, ap, sym, ◌∙◌, append_assoc, arith}
use Rattle.std.specs.Prelude.{nat_le}
use Rattle.std.proofs.Math.Bool.{and-true, and_assoc}
use Rattle.std.proofs.Math.Dec.{leb-zero}
use Rattle.std.proofs.lemmas.Bool.Decides.{leb_tells}
use Rattle.std.proofs.lemmas.List.{append-nil, length-append, length-drop, length-take}
use Rattle.outer_io.specs.KeptBytes.{KeptBytes, KeepsPiece, PiecesAreKeptAsOne, TextIsKeptAsOnePiece, kept_after}
use Rattle.outer_io.specs.Writings.{Handed, none, more}

-- a piece of no byte leaves the sink as it was
take_of_none : (n : ℕ) → take {A = ℕ} n [] ≡ []
take_of_none zero = refl
take_of_none (suc n) = refl

nothing : (kept : KeptBytes) → kept ≡ kept_after kept []
nothing kept =
    let free = kept.room - length kept.bytes in
    let bytes : kept.bytes ≡ kept.bytes ++ take free [] = sym (ap (λ bs. kept.bytes ++ bs) (take_of_none free) ∙ append-nil kept.bytes) in
    let whole : kept.is_whole ≡ kept.is_whole && nat_le 0 free = sym (ap (λ b. kept.is_whole && b) (leb-zero free) ∙ and-true kept.is_whole) in
    λ i. record { room = kept.room; bytes = bytes i; is_whole = whole i }

abbrev the_kept : ℕ → List ℕ → Bool → KeptBytes
the_kept room bytes whole = record { room = room; bytes = bytes; is_whole = whole }

same_kept : (room : ℕ) (bytes other : List ℕ) (whole all : Bool) → bytes ≡ other → whole ≡ all → the_kept room bytes whole ≡ the_kept room other all
same_kept room bytes other whole all e f = cc

-- two pieces fit exactly where both together do
both_fit : (free one two : ℕ) → (nat_le one free && nat_le two (free - one)) ≡ nat_le (one + two) free
both_fit free one two = grind (arith, leb_tells)

-- a front of two pieces
front_of_two : (free : ℕ) (one two : List ℕ) → take free one ++ take (free - length one) two ≡ take free (one ++ two)
front_of_two zero one two = let full : 0 - length one ≡ 0 = omega arith in ap (λ n. take n two) full
front_of_two (suc free) [] two = let all : suc free - 0 ≡ suc free = omega arith in ap (λ n. take n two) all
front_of_two (suc free) (x ∷ xs) two =
    let same : suc free - length (x ∷ xs) ≡ free - length xs = omega arith in
    ap (λ n. x ∷ (take free xs ++ take n two)) same ∙ ap (λ bs. x ∷ bs) (front_of_two free xs two)

-- the room behind the front of a piece
room_behind : (kept : KeptBytes) (one : List ℕ) → kept.room - length (kept.bytes ++ take (kept.room - length kept.bytes) one) ≡ kept.room - length kept.bytes - length one
room_behind kept one = omega (arith, length-append kept.bytes (take (kept.room - length kept.bytes) one), length-take (kept.room - length kept.bytes) one)

pub pieces_kept : PiecesAreKeptAsOne
pieces_kept kept one two =
    let free = kept.room - length kept.bytes in
    let behind = room_behind kept one in
    same_kept kept.room _ _ _ _
    (ap (λ n. kept.bytes ++ take free one ++ take n two) behind ∙ append_assoc kept.bytes (take free one) (take (free - length one) two) ∙ ap (λ bs. kept.bytes ++ bs) (front_of_two free one two))
    (ap (λ n. kept.is_whole && nat_le (length one) free && nat_le (length two) n) behind ∙ and_assoc kept.is_whole _ _ ∙ ap (λ b. kept.is_whole && b) (both_fit free (length one) (length two) ∙ ap (λ n. nat_le n free) (sym (length-append one two))))

-- after the first write nothing is left
kept_by : (old new : KeptBytes) (text : List ℕ) (count : ℕ) → count ≡ length text → Handed KeepsPiece old text count new → new ≡ kept_after old text
kept_by old new [] count e none = nothing old
kept_by old new (t ∷ ts) count e none = absurd (omega (arith, e))
kept_by old new text count e (more none some now) = now.1
kept_by old new text count e (more (more {count = first} {taken = taken} before some_first now_first) some now) =
    absurd (omega (arith, some, some_first, now.0, now_first.0, length-drop first text, length-drop (first + taken) text))

pub kept_as_one : TextIsKeptAsOnePiece
kept_as_one old new text handed = kept_by old new text (length text) refl handed
