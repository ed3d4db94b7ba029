-- Small runs of writes.
use Rattle.std.proofs.Common.{◌≡◌, ◌⊎◌, ℕ, List, [], ◌∷◌, ◌++◌, drop, length, inl, inr, refl, ap, ◌∙◌, arith}
use Rattle.outer_io.specs.Writings.{Handed, none, more, NotesWrite, SmallWritings, three_bytes}

in_two : Handed NotesWrite [] three_bytes 3 ((7 ∷ 8 ∷ 9 ∷ [], 2) ∷ (9 ∷ [], 1) ∷ [])
in_two = more {count = 2} {taken = 1} (more {count = 0} {taken = 2} none (omega arith) refl) (omega arith) refl

-- before any write there is no note; after some the first one has the whole text
abbrev Notes : Type 0
Notes = List (List ℕ × ℕ)

first_note : {count : ℕ} {notes : Notes} → Handed NotesWrite [] three_bytes count notes
    → ((notes ≡ []) × (count ≡ 0)) ⊎ ((taken : ℕ) × (rest : Notes) × (notes ≡ (three_bytes, taken) ∷ rest))
first_note none = inl (refl, refl)
first_note (more {count = count} {taken = taken} before some now) = elim (first_note before) [
  | inl at_first ↦ inr (taken, [], now ∙ (λ i. at_first.0 i ++ (drop (at_first.1 i) three_bytes, taken) ∷ []))
  | inr by ↦ inr (by.0, by.1 ++ (drop count three_bytes, taken) ∷ [], now ∙ ap (λ (notes : Notes). notes ++ (drop count three_bytes, taken) ∷ []) by.2)
]

-- how much the first write was given
abbrev first_given : Notes → ℕ
first_given [] = 0
first_given (note ∷ notes) = length note.0

in_parts : Handed NotesWrite [] three_bytes 3 ((7 ∷ 8 ∷ [], 2) ∷ (9 ∷ [], 1) ∷ []) → ⊥
in_parts handed = elim (first_note handed) [
  | inl empty ↦ let e = empty.0 in absurd cc
  | inr by ↦ let given : 2 ≡ 3 = ap first_given by.2 in absurd (omega (arith, given))
]

pub small_writings : SmallWritings
small_writings = record { in_two = in_two; in_parts = in_parts }
