-- Tests that go through directions and rings, and what they answer.
use Rattle.std.proofs.Common.{◌≡◌, ℕ, zero, suc, ◌+◌, ◌%◌, ◌<◌, ◌⊎◌, ◌↔◌, ◌∙◌, Bool, true, false, ◌&&◌, ◌||◌, not, cond, ltb, eqb, length, get_or, arith, refl, sym, ap, List, [], ◌∷◌}
use Rattle.std.proofs.lemmas.Bool.{and_parts, and_from, or_cases, false≢true, not-true, not_from_false, eqb-true, eq-eqb, agree_below, agree_below_at}
use Rattle.std.proofs.Math.Bool.{beq}
use Rattle.std.proofs.Math.Dec.{leb-suc-suc}
use Rattle.std.proofs.lemmas.List.Folds.{list_any_at}
use Rattle.std.specs.List.{list_any, count_by}
use Rattle.std.specs.Prelude.{IsTrue, ◌==◌, nat_le}
use Rattle.tri_lattice.specs.Lattice.{directions}
use Rattle.tri_lattice.proofs.Nodes.{each_direction}
pub use Rattle.tri_lattice.proofs.EachBelow.{each_below, each_below_at, each_below_from, some_below, some_below_at, some_below_from}
use Rattle.ring_guard.specs.Rings.{ring_entry, IsArcEnd, is_arc_end, IsOneArc, is_one_arc}
use Rattle.ring_guard.specs.Laws.{ring_of, arcs, ArcTable}

-- a test holds of every list of n entries
abbrev pub each_list : ℕ → (List Bool → Bool) → Bool
each_list zero f = f []
each_list (suc n) f = each_list n (λ xs. f (true ∷ xs)) && each_list n (λ xs. f (false ∷ xs))

pub each_list_at : (n : ℕ) (f : List Bool → Bool) → each_list n f ≡ true → (xs : List Bool) → length xs ≡ n → f xs ≡ true
each_list_at zero f e [] l = e
each_list_at zero f e (x ∷ xs) l = absurd (omega arith)
each_list_at (suc n) f e [] l = absurd (omega arith)
each_list_at (suc n) f e (true ∷ xs) l = each_list_at n _ (and_parts _ _ e).0 xs (omega arith)
each_list_at (suc n) f e (false ∷ xs) l = each_list_at n _ (and_parts _ _ e).1 xs (omega arith)

-- where the first test holds, so does the second
abbrev pub implies : Bool → Bool → Bool
implies p q = not p || q

pub implies_at : (p q : Bool) → implies p q ≡ true → p ≡ true → q ≡ true
implies_at true q e t = e
implies_at false q e t = absurd (false≢true t)

pub implies_from : (p q : Bool) → (p ≡ true → q ≡ true) → implies p q ≡ true
implies_from true q h = h refl
implies_from false q h = refl

pub beq-true : (p q : Bool) → beq p q ≡ true → p ≡ q
beq-true true true e = refl
beq-true true false e = absurd (false≢true e)
beq-true false true e = absurd (false≢true e)
beq-true false false e = refl

pub is_end-true : (xs : List Bool) (i : ℕ) → is_arc_end xs i ≡ true → IsArcEnd xs i
is_end-true xs i e = let q = and_parts _ _ e in (q.0, not-true _ q.1)

pub IsEnd-is_end : (xs : List Bool) (i : ℕ) → IsArcEnd xs i → is_arc_end xs i ≡ true
IsEnd-is_end xs i (t, f) = and_from _ _ t (not_from_false _ f)

-- where arcs end in both directions, they are one
abbrev one_end : List Bool → ℕ → ℕ → Bool
one_end xs i j = implies (is_arc_end xs i && is_arc_end xs j) (eqb i j)

-- the six entries, as a list of their own
abbrev pub six : List Bool → List Bool
six xs = ring_entry xs 0 ∷ ring_entry xs 1 ∷ ring_entry xs 2 ∷ ring_entry xs 3 ∷ ring_entry xs 4 ∷ ring_entry xs 5 ∷ []

-- a test that computes true on each of the 64 rings
pub ring_table : (f : List Bool → Bool) → each_list 6 f ≡ true → (xs : List Bool) → f (six xs) ≡ true
ring_table f e xs = each_list_at 6 f e (six xs) refl

-- an entry is true, and each two directions in which arcs end are one
abbrev ends_meet : List Bool → Bool
ends_meet xs = some_below 6 (ring_entry xs) && each_below 6 (λ i. each_below 6 (one_end xs i))

count_decides : each_list 6 (λ xs. beq (is_one_arc xs) (ends_meet xs)) ≡ true
count_decides = refl

-- the test that counts the ends answers as the one that compares each two of them
counted : (xs : List Bool) → is_one_arc xs ≡ ends_meet xs
counted xs = beq-true _ _ (ring_table (λ ys. beq (is_one_arc ys) (ends_meet ys)) count_decides xs)

pub is_one_arc-true : (xs : List Bool) → is_one_arc xs ≡ true → IsOneArc xs
is_one_arc-true xs e =
    let q = and_parts _ _ (sym (counted xs) ∙ e) in
    record {
      some = some_below_at 6 (ring_entry xs) q.0;
      once = λ i j li lj ei ej.
          let same = each_below_at 6 (one_end xs i) (each_below_at 6 (λ k. each_below 6 (one_end xs k)) q.1 i li) j lj in
          eqb-true i j (implies_at _ _ same (and_from _ _ (IsEnd-is_end xs i ei) (IsEnd-is_end xs j ej)));
    }

pub IsOneArc-is_one_arc : (xs : List Bool) → IsOneArc xs → is_one_arc xs ≡ true
IsOneArc-is_one_arc xs arc =
    let same : (i : ℕ) → i < 6 → (j : ℕ) → j < 6 → one_end xs i j ≡ true = λ i li j lj. implies_from _ _ (λ both.
    let q = and_parts _ _ both in
    eq-eqb i j (arc.once i j li lj (is_end-true xs i q.0) (is_end-true xs j q.1))) in
    let (i, l, t) = arc.some in
    counted xs ∙ and_from _ _ (some_below_from 6 (ring_entry xs) i l t) (each_below_from 6 (λ k. each_below 6 (one_end xs k)) (λ k lk. each_below_from 6 (one_end xs k) (same k lk)))

-- how many arcs end in directions below n
abbrev pub ends_below : List Bool → ℕ → ℕ
ends_below xs zero = 0
ends_below xs (suc n) = ends_below xs n + cond (is_arc_end xs n) 1 0

-- each direction lies at its own place among the six
direction_at : (d : ℕ) → d < 6 → get_or directions d 0 ≡ d
direction_at = each_direction (λ d. get_or directions d 0 ≡ d) refl refl refl refl refl refl

-- the answer of a loop that has passed all directions and found a true entry
pub IsOneArc-found : (xs : List Bool) (some : Bool) (ends i : ℕ) → some ≡ true → i ≡ 6 → some ≡ some_below i (ring_entry xs) → ends ≡ ends_below xs i
    → IsTrue (ltb ends 2) ↔ IsOneArc xs
IsOneArc-found xs some ends i t all found passed =
    let (d, l, on) = some_below_at 6 (ring_entry xs) (ap (λ n. some_below n (ring_entry xs)) (sym all) ∙ sym found ∙ t) in
    let some_is : list_any (ring_entry xs) directions ≡ true = list_any_at (ring_entry xs) directions d 0 (omega arith) (ap (ring_entry xs) (direction_at d l) ∙ on) in
    let ends_are : ends_below xs 6 ≡ ends = ap (ends_below xs) (sym all) ∙ sym passed in
    let count_is : count_by (is_arc_end xs) directions ≡ ends = omega arith in
    let same : is_one_arc xs ≡ ltb ends 2 = ap (λ b. b && nat_le (count_by (is_arc_end xs) directions) 1) some_is ∙ ap (λ n. nat_le n 1) count_is ∙ sym (leb-suc-suc ends 1) in
    (λ few. is_one_arc-true xs (same ∙ few), λ arc. sym same ∙ IsOneArc-is_one_arc xs arc)

-- entry j is reached from entry i over true entries, in at most n steps round
abbrev pub reaches : List Bool → ℕ → ℕ → ℕ → Bool
reaches xs zero i j = eqb i j
reaches xs (suc n) i j = eqb i j || (ring_entry xs ((i + 1) % 6) && reaches xs n ((i + 1) % 6) j)

-- in one arc, two true entries reach each other one way round or the other
abbrev links : List Bool → ℕ → ℕ → Bool
links xs i j = implies (is_one_arc xs && (ring_entry xs i && ring_entry xs j)) (reaches xs 5 i j || reaches xs 5 j i)

arcs_link : each_list 6 (λ xs. each_below 6 (λ i. each_below 6 (links xs i))) ≡ true
arcs_link = refl

pub linked : (xs : List Bool) → IsOneArc xs → (i j : ℕ) → i < 6 → j < 6 → IsTrue (ring_entry xs i) → IsTrue (ring_entry xs j)
    → IsTrue (reaches xs 5 i j) ⊎ IsTrue (reaches xs 5 j i)
linked xs arc i j li lj ti tj =
    let row = ring_table (λ ys. each_below 6 (λ a. each_below 6 (links ys a))) arcs_link xs in
    let at : links xs i j ≡ true = each_below_at 6 (links xs i) (each_below_at 6 (λ a. each_below 6 (links xs a)) row i li) j lj in
    or_cases _ _ (implies_at _ _ at (and_from _ _ (IsOneArc-is_one_arc xs arc) (and_from _ _ ti tj)))

-- the table of the 64 rings, computed
table_computed : agree_below (λ n. is_one_arc (ring_of n)) (λ n. list_any (λ k. k == n) arcs) 64 ≡ true
table_computed = refl

pub arc_table : ArcTable
arc_table n l =
    let same = agree_below_at (λ m. is_one_arc (ring_of m)) (λ m. list_any (λ k. k == m) arcs) 64 n table_computed l in
    (λ arc. sym same ∙ IsOneArc-is_one_arc (ring_of n) arc, λ t. is_one_arc-true (ring_of n) (same ∙ t))
