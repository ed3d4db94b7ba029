-- Lists that grow by their next element, as the lines of a section do.
use Rattle.std.proofs.Common.{◌≡◌, ℕ, ◌+◌, List, [], ◌∷◌, ◌++◌, length, take, map, flat_map, slice_get, Some, ap, ◌∙◌, arith}
use Rattle.std.specs.List.{enumerate_from}
use Rattle.std.proofs.lemmas.Grind.{flat_map-append}
use Rattle.std.proofs.lemmas.List.{take_more, map-append, length-take-le, append-nil}
use Rattle.std.proofs.lemmas.Option.{slice_get_within, get_or_from_slice_get}
use Rattle.text_tokens.specs.Lines.{Words}

-- one more element of a list
pub take_next : {A : Type 0} (xs : List A) (i : ℕ) (x : A) → slice_get xs i ≡ Some x → take (i + 1) xs ≡ take i xs ++ x ∷ []
take_next xs i x at = take_more xs i x (slice_get_within xs i x at) ∙ ap (λ y. take i xs ++ y ∷ []) (get_or_from_slice_get xs i x x at)

-- a numbered list with one more element
pub numbered_more : {A : Type 0} (n : ℕ) (xs : List A) (x : A) → enumerate_from n (xs ++ x ∷ []) ≡ enumerate_from n xs ++ (n + length xs, x) ∷ []
numbered_more n [] x = let same : n ≡ n + 0 = omega arith in ap (λ k. (k, x) ∷ []) same
numbered_more n (y ∷ ys) x = let same : n + 1 + length ys ≡ n + length (y ∷ ys) = omega arith in ap (λ zs. (n, y) ∷ zs) (numbered_more (n + 1) ys x ∙ ap (λ k. enumerate_from (n + 1) ys ++ (k, x) ∷ []) same)

-- one more element of a numbered list
pub numbered_next : {A : Type 0} (xs : List A) (i : ℕ) (x : A) → slice_get xs i ≡ Some x → enumerate_from 0 (take (i + 1) xs) ≡ enumerate_from 0 (take i xs) ++ (i, x) ∷ []
numbered_next xs i x at =
    let inside = slice_get_within xs i x at in
    let same : 0 + length (take i xs) ≡ i = omega (arith, length-take-le i xs (omega arith)) in
    ap (λ ys. enumerate_from 0 ys) (take_next xs i x at) ∙ numbered_more 0 (take i xs) x ∙ ap (λ k. enumerate_from 0 (take i xs) ++ (k, x) ∷ []) same

-- the lines of a numbered list, with that of the next element
pub line_next : {A : Type 0} (line : ℕ × A → Words) (xs : List A) (i : ℕ) (x : A) → slice_get xs i ≡ Some x → map line (enumerate_from 0 (take (i + 1) xs)) ≡ map line (enumerate_from 0 (take i xs)) ++ line (i, x) ∷ []
line_next line xs i x at = ap (map line) (numbered_next xs i x at) ∙ map-append line (enumerate_from 0 (take i xs)) ((i, x) ∷ [])

-- the same where an element has several lines
pub lines_next : {A : Type 0} (lines : ℕ × A → List Words) (xs : List A) (i : ℕ) (x : A) → slice_get xs i ≡ Some x → flat_map lines (enumerate_from 0 (take (i + 1) xs)) ≡ flat_map lines (enumerate_from 0 (take i xs)) ++ lines (i, x)
lines_next lines xs i x at =
    ap (flat_map lines) (numbered_next xs i x at) ∙ flat_map-append lines (enumerate_from 0 (take i xs)) ((i, x) ∷ []) ∙ ap (λ ls. flat_map lines (enumerate_from 0 (take i xs)) ++ ls) (append-nil (lines (i, x)))
