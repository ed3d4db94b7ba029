-- What the marks say of the turns.
use Rattle.std.proofs.Common.{◌≡◌, ℕ, zero, suc, ◌+◌, List, [], ◌∷◌, map, Some, ap, sym, subst, refl, ◌∙◌, arith}
use Rattle.std.specs.Prelude.{slice_get}
use Rattle.std.proofs.lemmas.Option.{same_Some}
use Rattle.claim_rule.specs.declared.manner.ByJournal.{ByJournal}
use Rattle.node_claims.specs.declared.turn.Turn.{Turn}
use Rattle.node_claims.specs.Answers.{caller_of, turn_of, mark_of}
use Rattle.node_claims.proofs.Answered.{one_turn}
use Rattle.caller_workers.specs.Turns.{marks_in, turn_at}
use Rattle.caller_workers.specs.Laws.{TurnsAreOne, SmallTurns, small_turns}

abbrev first : {A : Type 0} → A → List A → A
first d [] = d
first d (x ∷ xs) = x

abbrev without_first : {A : Type 0} → List A → List A
without_first [] = []
without_first (x ∷ xs) = xs

-- turns in a row
some_turns : {W : Type 0} (one two : List (Turn W)) (c from : ℕ) → map mark_of one ≡ map mark_of two → ((k : ℕ) (a : Turn W) → slice_get one k ≡ Some a → (caller_of a ≡ c) × (turn_of a ≡ from + k)) → ((k : ℕ) (a : Turn W) → slice_get two k ≡ Some a → (caller_of a ≡ c) × (turn_of a ≡ from + k)) → one ≡ two
some_turns [] [] c from m f g = refl
some_turns [] (b ∷ two) c from m f g = absurd (cc)
some_turns (a ∷ one) [] c from m f g = absurd (cc)
some_turns (a ∷ one) (b ∷ two) c from m f g =
    let one_is = f zero a refl in
    let two_is = g zero b refl in
    λ i. one_turn a b (one_is.0 ∙ sym two_is.0) (one_is.1 ∙ sym two_is.1) (ap (first (mark_of a)) m) i ∷ some_turns one two c (from + 1) (ap without_first m)
    (λ k x e. ((f (suc k) x e).0, (let n = (f (suc k) x e).1 in omega (arith, n)))) (λ k x e. ((g (suc k) x e).0, (let n = (g (suc k) x e).1 in omega (arith, n)))) i

all_turns : {W : Type 0} (one two : List (List (Turn W))) (from : ℕ) → map marks_in one ≡ map marks_in two → ((c k : ℕ) (a : Turn W) → turn_at one c k ≡ Some a → (caller_of a ≡ from + c) × (turn_of a ≡ k)) → ((c k : ℕ) (a : Turn W) → turn_at two c k ≡ Some a → (caller_of a ≡ from + c) × (turn_of a ≡ k)) → one ≡ two
all_turns [] [] from m f g = refl
all_turns [] (b ∷ two) from m f g = absurd (cc)
all_turns (a ∷ one) [] from m f g = absurd (cc)
all_turns (a ∷ one) (b ∷ two) from m f g =
    λ i. some_turns a b (from + 0) 0 (ap (first (marks_in a)) m) (λ k x e. ((f zero k x e).0, (let n = (f zero k x e).1 in omega (arith, n)))) (λ k x e. ((g zero k x e).0, (let n = (g zero k x e).1 in omega (arith, n)))) i ∷ all_turns one two (from + 1) (ap without_first m)
    (λ c k x e. ((let n = (f (suc c) k x e).0 in omega (arith, n)), (f (suc c) k x e).1)) (λ c k x e. ((let n = (g (suc c) k x e).0 in omega (arith, n)), (g (suc c) k x e).1)) i

pub turns_are_one : {W : Type 0} → TurnsAreOne W
turns_are_one told one two are other =
    all_turns one two 0 (sym are.marks ∙ other.marks) (λ c k a e. ((let n = (are.each c k a e).0 in omega (arith, n)), (are.each c k a e).1))
    (λ c k a e. ((let n = (other.each c k a e).0 in omega (arith, n)), (other.each c k a e).1))

-- ---- an example

small_each : (caller turn : ℕ) (answer : Turn ByJournal) → turn_at small_turns caller turn ≡ Some answer → (caller_of answer ≡ caller) × (turn_of answer ≡ turn)
small_each zero zero a e = subst (λ (x : Turn ByJournal). (caller_of x ≡ 0) × (turn_of x ≡ 0)) (same_Some _ a e) (refl, refl)
small_each zero (suc zero) a e = subst (λ (x : Turn ByJournal). (caller_of x ≡ 0) × (turn_of x ≡ 1)) (same_Some _ a e) (refl, refl)
small_each zero (suc (suc k)) a e = absurd (cc)
small_each (suc zero) zero a e = subst (λ (x : Turn ByJournal). (caller_of x ≡ 1) × (turn_of x ≡ 0)) (same_Some _ a e) (refl, refl)
small_each (suc zero) (suc zero) a e = subst (λ (x : Turn ByJournal). (caller_of x ≡ 1) × (turn_of x ≡ 1)) (same_Some _ a e) (refl, refl)
small_each (suc zero) (suc (suc k)) a e = absurd (cc)
small_each (suc (suc c)) k a e = absurd (cc)

pub small_example : SmallTurns
small_example = record { marks = refl; each = small_each }
