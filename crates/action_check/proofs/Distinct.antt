-- Declarations whose names differ from each other.
use Rattle.std.proofs.Common.{◌≢◌, ℕ, List, [], ◌∷◌, ◌++◌, length, length-append, arith, subst, append_assoc}
use Rattle.std.specs.List.{All, Contains}
use Rattle.std.proofs.Math.Seq.{get_or-append_seam}
use Rattle.std.proofs.lemmas.List.{get_or_append_left, append-nil}
use Rattle.std.proofs.lemmas.List.Elements.{All-weaker, All-contains_itself}
use Rattle.std.proofs.lemmas.List.Quantifiers.{all_pairs_push}
use Rattle.action_check.specs.Rules.{AreDistinct}

-- each differs from all before it, of which these are the first
abbrev pub AreFresh : List (List ℕ) → List (List ℕ) → Type 0
AreFresh earlier [] = Unit {0}
AreFresh earlier (x ∷ xs) = (¬ Contains earlier x) × AreFresh (earlier ++ x ∷ []) xs

pub none_distinct : AreDistinct []
none_distinct i j d l m = absurd (omega arith)

others : (earlier : List (List ℕ)) (x : List ℕ) → ¬ Contains earlier x → All (λ y. y ≢ x) earlier
others earlier x fresh = All-weaker (Contains earlier) (λ y. y ≢ x) (λ y has same. fresh (let P : List ℕ → Type 0 = Contains earlier in subst P same has)) earlier (All-contains_itself earlier)

pub distinct_from : (earlier names : List (List ℕ)) → AreDistinct earlier → AreFresh earlier names → AreDistinct (earlier ++ names)
distinct_from earlier [] distinct fresh = rw append-nil distinct
distinct_from earlier (x ∷ xs) distinct fresh =
    let more = distinct_from (earlier ++ x ∷ []) xs (all_pairs_push ◌≢◌ earlier x distinct (others earlier x fresh.0)) fresh.1 in
    rw append_assoc at more

fresh_here : (earlier xs : List (List ℕ)) (x : List ℕ) → AreDistinct (earlier ++ x ∷ xs) → ¬ Contains earlier x
fresh_here earlier xs x distinct (k, within, is) = distinct k (length earlier) x within (omega (arith, length-append earlier (x ∷ xs))) (rw (get_or_append_left earlier (x ∷ xs) x k within, get_or-append_seam earlier x xs x) is)

pub fresh_from : (earlier names : List (List ℕ)) → AreDistinct (earlier ++ names) → AreFresh earlier names
fresh_from earlier [] distinct = tt
fresh_from earlier (x ∷ xs) distinct = (fresh_here earlier xs x distinct, fresh_from (earlier ++ x ∷ []) xs (rw append_assoc distinct))
