-- What is asked of the ports of a list, of which the first one is known.
use Rattle.std.proofs.Common.{◌≡◌, ◌∙◌, ◌+◌, ℕ, Bool, true, false, List, [], ◌∷◌, refl, sym, ap, arith, cond, Option, Some}
use Rattle.std.specs.Prelude.{Result, Ok, Err}
use Rattle.std.specs.List.{find, count_by}
use Rattle.std.proofs.lemmas.List.Sums.{sum_by-cons}
use Rattle.std.specs.Result.{is_err}
use Rattle.amoebot_state.specs.declared.bot.Port.{Port}
use Rattle.amoebot_state.specs.declared.verdict.Failure.{Failure}
use Rattle.model_ops.specs.Operations.{and_then}
use Rattle.action_meaning.specs.Choices.{Asked, is_true, decided_by, any_of_ports, all_of_ports, first_of_ports, count_of_ports}

pub any_goes_on : (asked : Asked) (p : Port) (ps : List Port) → asked p ≡ Ok false → any_of_ports asked (p ∷ ps) ≡ any_of_ports asked ps
any_goes_on asked p ps e = rw e refl

pub any_is_true : (asked : Asked) (p : Port) (ps : List Port) → asked p ≡ Ok true → any_of_ports asked (p ∷ ps) ≡ Ok true
any_is_true asked p ps e = rw e e

pub any_fails : (asked : Asked) (p : Port) (ps : List Port) (f : Failure) → asked p ≡ Err f → any_of_ports asked (p ∷ ps) ≡ Err f
any_fails asked p ps f e = rw e e

pub all_goes_on : (asked : Asked) (p : Port) (ps : List Port) → asked p ≡ Ok true → all_of_ports asked (p ∷ ps) ≡ all_of_ports asked ps
all_goes_on asked p ps e = rw e refl

pub all_is_false : (asked : Asked) (p : Port) (ps : List Port) → asked p ≡ Ok false → all_of_ports asked (p ∷ ps) ≡ Ok false
all_is_false asked p ps e = rw e e

pub all_fails : (asked : Asked) (p : Port) (ps : List Port) (f : Failure) → asked p ≡ Err f → all_of_ports asked (p ∷ ps) ≡ Err f
all_fails asked p ps f e = rw e e

pub first_goes_on : (asked : Asked) (p : Port) (ps : List Port) → asked p ≡ Ok false → first_of_ports asked (p ∷ ps) ≡ first_of_ports asked ps
first_goes_on asked p ps e = rw e refl

pub first_is_here : (asked : Asked) (p : Port) (ps : List Port) → asked p ≡ Ok true → first_of_ports asked (p ∷ ps) ≡ Ok p
first_is_here asked p ps e = rw e (rw e refl)

pub first_fails : (asked : Asked) (p : Port) (ps : List Port) (f : Failure) → asked p ≡ Err f → first_of_ports asked (p ∷ ps) ≡ Err f
first_fails asked p ps f e = rw e (rw e refl)

-- ---- how many, with those counted before

abbrev pub and_so_many : ℕ → Result ℕ Failure → Result ℕ Failure
and_so_many n r = and_then r (λ k. Ok (n + k))

pub and_none : (r : Result ℕ Failure) → r ≡ and_so_many 0 r
and_none (Ok k) = let e : k ≡ 0 + k = omega arith in ap Ok e
and_none (Err f) = refl

pub and_more : (m n : ℕ) (r : Result ℕ Failure) → and_so_many (m + n) r ≡ and_so_many m (and_so_many n r)
and_more m n (Ok k) = let e : (m + n) + k ≡ m + (n + k) = omega arith in ap Ok e
and_more m n (Err f) = refl

-- more than are true, unless one fails
counted : Asked → ℕ → List Port → Result ℕ Failure
counted asked n ps = decided_by (Ok (n + count_by (λ p. is_true (asked p)) ps)) (λ p. and_then (asked p) (λ b. Ok 0)) (find (λ p. is_err (asked p)) ps)

from_none : (asked : Asked) (ps : List Port) → count_of_ports asked ps ≡ counted asked 0 ps
unfolding counted
from_none asked ps =
    let l : count_by (λ p. is_true (asked p)) ps ≡ 0 + count_by (λ p. is_true (asked p)) ps = omega arith in
    ap (λ k. decided_by (Ok k) (λ p. and_then (asked p) (λ b. Ok 0)) (find (λ p. is_err (asked p)) ps)) l

either : {A : Type 0} (b : Bool) (x : A) (g : Port → A) (p : Port) (o : Option Port) → decided_by x g (cond b (Some p) o) ≡ cond b (g p) (decided_by x g o)
either true x g p o = refl
either false x g p o = refl

counted_step : (asked : Asked) (n : ℕ) (p : Port) (ps : List Port) → counted asked n (p ∷ ps) ≡ cond (is_err (asked p)) (and_then (asked p) (λ b. Ok 0)) (counted asked (n + cond (is_true (asked p)) 1 0) ps)
unfolding counted
counted_step asked n p ps =
    let t = λ (q : Port). is_true (asked q) in
    let l : n + count_by t (p ∷ ps) ≡ (n + cond (t p) 1 0) + count_by t ps = omega (arith, sum_by-cons (λ (q : Port). cond (t q) 1 0) p ps) in
    ap (λ k. decided_by (Ok k) (λ q. and_then (asked q) (λ b. Ok 0)) (find (λ q. is_err (asked q)) (p ∷ ps))) l
    ∙ either (is_err (asked p)) _ (λ q. and_then (asked q) (λ b. Ok 0)) p (find (λ q. is_err (asked q)) ps)

counted_first : (asked : Asked) (n : ℕ) (p : Port) (ps : List Port) (r : Result Bool Failure) → asked p ≡ r → counted asked n (p ∷ ps) ≡ cond (is_err r) (and_then r (λ b. Ok 0)) (counted asked (n + cond (is_true r) 1 0) ps)
counted_first asked n p ps r e = counted_step asked n p ps ∙ ap (λ q. cond (is_err q) (and_then q (λ b. Ok 0)) (counted asked (n + cond (is_true q) 1 0) ps)) e

counted_more : (asked : Asked) (n : ℕ) (ps : List Port) → counted asked n ps ≡ and_so_many n (count_of_ports asked ps)
unfolding counted
counted_more asked n [] = refl
counted_more asked n (p ∷ ps) = by_first asked n p ps (asked p) refl (λ m. counted_more asked m ps)
  where
    by_first : (asked : Asked) (n : ℕ) (p : Port) (ps : List Port) (r : Result Bool Failure) → asked p ≡ r → ((m : ℕ) → counted asked m ps ≡ and_so_many m (count_of_ports asked ps)) → counted asked n (p ∷ ps) ≡ and_so_many n (count_of_ports asked (p ∷ ps))
    by_first asked n p ps (Err f) e more =
        counted_first asked n p ps (Err f) e ∙ sym (ap (and_so_many n) (from_none asked (p ∷ ps) ∙ counted_first asked 0 p ps (Err f) e))
    by_first asked n p ps (Ok true) e more =
        let l : n + 1 ≡ n + (0 + 1) = omega arith in
        counted_first asked n p ps (Ok true) e ∙ more (n + 1) ∙ ap (λ k. and_so_many k (count_of_ports asked ps)) l ∙ and_more n (0 + 1) (count_of_ports asked ps)
        ∙ sym (ap (and_so_many n) (from_none asked (p ∷ ps) ∙ counted_first asked 0 p ps (Ok true) e ∙ more (0 + 1)))
    by_first asked n p ps (Ok false) e more =
        let l : n + 0 ≡ n + (0 + 0) = omega arith in
        counted_first asked n p ps (Ok false) e ∙ more (n + 0) ∙ ap (λ k. and_so_many k (count_of_ports asked ps)) l ∙ and_more n (0 + 0) (count_of_ports asked ps)
        ∙ sym (ap (and_so_many n) (from_none asked (p ∷ ps) ∙ counted_first asked 0 p ps (Ok false) e ∙ more (0 + 0)))

pub count_goes_on : (asked : Asked) (p : Port) (ps : List Port) → asked p ≡ Ok false → count_of_ports asked (p ∷ ps) ≡ count_of_ports asked ps
count_goes_on asked p ps e = from_none asked (p ∷ ps) ∙ counted_first asked 0 p ps (Ok false) e ∙ counted_more asked (0 + 0) ps ∙ sym (and_none (count_of_ports asked ps))

pub count_one_more : (asked : Asked) (p : Port) (ps : List Port) → asked p ≡ Ok true → count_of_ports asked (p ∷ ps) ≡ and_so_many 1 (count_of_ports asked ps)
count_one_more asked p ps e = from_none asked (p ∷ ps) ∙ counted_first asked 0 p ps (Ok true) e ∙ counted_more asked (0 + 1) ps

pub count_fails : (asked : Asked) (p : Port) (ps : List Port) (f : Failure) → asked p ≡ Err f → count_of_ports asked (p ∷ ps) ≡ Err f
count_fails asked p ps f e = rw e (rw e refl)
