-- Lemmas on bytes that grow a piece at a time.
use Rattle.std.proofs.Common.{◌≡◌, ℕ, ◌+◌, ◌≤◌, ◌<◌, List, take, drop, length, ◌++◌, ap, sym, subst, ◌∙◌, append_assoc}
use Rattle.std.specs.declared.option.Option.{Option}
use Rattle.std.specs.declared.option.Option.TheVariants.{Some, None}
use Rattle.std.proofs.Math.Seq.{take-add}
use Rattle.std.proofs.lemmas.List.{length-append, length-take-le, take-append-le}
use Rattle.outer_io.specs.Told.{Grows}
use Rattle.outer_io.specs.Writings.{Handed, more}

-- a front, and then a front of what is left, make a longer front
pub Grows-take : (old mid new : Option (List ℕ)) (bytes piece : List ℕ) (from taken : ℕ) → piece ≡ drop from bytes → Grows old mid (take from bytes) → Grows mid new (take taken piece) → Grows old new (take (from + taken) bytes)
Grows-take old mid None bytes piece from taken e p q = tt
Grows-take old None (Some z) bytes piece from taken e p q = absurd q
Grows-take None (Some y) (Some z) bytes piece from taken e p q = absurd p
Grows-take (Some x) (Some y) (Some z) bytes piece from taken e p q =
    q ∙ ap (λ l. l ++ take taken piece) p ∙ append_assoc x (take from bytes) (take taken piece) ∙ ap (λ l. x ++ l) (ap (λ l. take from bytes ++ take taken l) e ∙ sym (take-add from taken bytes))

-- the number of bytes got, with a piece of which only the front was filled
pub length-append_take : (xs ys : List ℕ) (n : ℕ) → n ≤ length ys → length (xs ++ take n ys) ≡ length xs + n
length-append_take xs ys n h = length-append xs (take n ys) ∙ ap (λ k. length xs + k) (length-take-le n ys h)

-- a front of some bytes has some
pub some_taken : (piece : List ℕ) (taken : ℕ) → 0 < taken → taken ≤ length piece → 0 < length (take taken piece)
some_taken piece taken some fits = subst (λ count. 0 < count) (sym (length-take-le taken piece fits)) some

-- one more write, which was given all that was left
pub Handed-more : {T : Type 0} {takes : T → List ℕ → ℕ → T → Type 0} {first mid last : T} (text piece : List ℕ) (from taken : ℕ)
    → piece ≡ drop from text → Handed takes first text from mid → 0 < taken → takes mid piece taken last → Handed takes first text (from + taken) last
Handed-more {takes = takes} {mid = mid} {last = last} text piece from taken e before some now = more before some (subst (λ l. takes mid l taken last) e now)

-- a piece of which only the front was filled, read from a longer one
pub got_front : (bytes piece rest : List ℕ) (n : ℕ) → n ≤ length piece → bytes ++ take n piece ≡ bytes ++ take n (piece ++ rest)
got_front bytes piece rest n h = ap (λ l. bytes ++ l) (sym (take-append-le n piece rest h))
