-- What a count of ports and a choice among ports tell of each port.
use Rattle.std.proofs.Common.{◌≡◌, ◌⊎◌, ◌∙◌, ℕ, ◌+◌, Bool, true, false, ◌&&◌, List, [], ◌∷◌, ◌++◌, map, filter, ap, sym, refl, inl, inr, arith, cond}
use Rattle.std.specs.Prelude.{Result, Ok, Err}
use Rattle.std.specs.List.{count_by}
use Rattle.std.proofs.lemmas.Bool.{false≢true}
use Rattle.std.proofs.lemmas.List.Sums.{sum_by-cons, sum_by-append}
use Rattle.amoebot_state.specs.declared.bot.Port.{Port}
use Rattle.amoebot_state.specs.declared.verdict.Failure.{Failure}
use Rattle.amoebot_state.proofs.Members.{Has, here, later, has_cases, not_in_none}
use Rattle.action_meaning.specs.Choices.{Asked, is_true, is_false, any_of_ports, count_of_ports}
use Rattle.model_ops.proofs.Told.{ok_told}
use Rattle.action_eval.proofs.ChoicesLemmas.{any_goes_on, any_is_true, any_fails, count_goes_on, count_one_more, count_fails, and_so_many}

-- ---- counts

count_cons : {X : Type 0} (p : X → Bool) (x : X) (xs : List X) → count_by p (x ∷ xs) ≡ cond (p x) 1 0 + count_by p xs
count_cons p x xs = sum_by-cons (λ y. cond (p y) 1 0) x xs

-- tests that answer alike count alike
pub count_alike : {X : Type 0} (p q : X → Bool) (xs : List X) → ((x : X) → Has x xs → p x ≡ q x) → count_by p xs ≡ count_by q xs
count_alike p q [] same = refl
count_alike p q (x ∷ xs) same =
    let rest = count_alike p q xs (λ y has. same y (later has)) in
    let first = ap (λ b. cond b 1 0) (same x here) in
    count_cons p x xs ∙ (λ i. first i + rest i) ∙ sym (count_cons q x xs)

-- what passes no test is not counted
pub count_none : {X : Type 0} (p : X → Bool) (xs : List X) → ((x : X) → Has x xs → p x ≡ false) → count_by p xs ≡ 0
count_none p [] none = refl
count_none p (x ∷ xs) none =
    let rest = count_none p xs (λ y has. none y (later has)) in
    let first : cond (p x) 1 0 ≡ 0 = ap (λ b. cond b 1 0) (none x here) in
    count_cons p x xs ∙ (λ i. first i + rest i)

pub count_both : {X : Type 0} (p : X → Bool) (xs ys : List X) → count_by p (xs ++ ys) ≡ count_by p xs + count_by p ys
count_both p xs ys = sum_by-append (λ y. cond (p y) 1 0) xs ys

pub count_mapped : {X Y : Type 0} (f : X → Y) (p : Y → Bool) (xs : List X) → count_by p (map f xs) ≡ count_by (λ x. p (f x)) xs
count_mapped f p [] = refl
count_mapped f p (x ∷ xs) =
    let rest = count_mapped f p xs in
    count_cons p (f x) (map f xs) ∙ (λ i. cond (p (f x)) 1 0 + rest i) ∙ sym (count_cons (λ y. p (f y)) x xs)

passing : {X : Type 0} (p : X → Bool) (x : X) (xs : List X) → p x ≡ true → filter p (x ∷ xs) ≡ x ∷ filter p xs
passing p x xs e = rw e refl

staying : {X : Type 0} (p : X → Bool) (x : X) (xs : List X) → p x ≡ false → filter p (x ∷ xs) ≡ filter p xs
staying p x xs e = rw e refl

-- a count among those that pass a first test
pub count_filtered : {X : Type 0} (p q : X → Bool) (xs : List X) → count_by q (filter p xs) ≡ count_by (λ x. p x && q x) xs
count_filtered p q [] = refl
count_filtered {X} p q (x ∷ xs) =
    let rest = count_filtered p q xs in
    elim (p x) as (λ b. p x ≡ b → count_by q (filter p (x ∷ xs)) ≡ count_by (λ y. p y && q y) (x ∷ xs)) [
      | true ↦ λ t.
          ap (count_by q) (passing p x xs t) ∙ count_cons q x (filter p xs) ∙ (λ i. cond (q x) 1 0 + rest i)
          ∙ sym (count_cons (λ y. p y && q y) x xs ∙ ap (λ b. cond (b && q x) 1 0 + count_by (λ y. p y && q y) xs) t)
      | false ↦ λ f.
          let none : count_by (λ y. p y && q y) xs ≡ 0 + count_by (λ y. p y && q y) xs = omega arith in
          ap (count_by q) (staying p x xs f) ∙ rest ∙ none
          ∙ sym (count_cons (λ y. p y && q y) x xs ∙ ap (λ b. cond (b && q x) 1 0 + count_by (λ y. p y && q y) xs) f)
    ] refl

-- ---- choices

err_ok : {A : Type 0} {f : Failure} {x : A} → (let r : Result A Failure = Err f in r) ≡ Ok x → ⊥
err_ok e = cc

-- `any` is false, where the first port has this answer
none_first : (asked : Asked) (p : Port) (ps : List Port) (q : Port) (r : Result Bool Failure) → asked p ≡ r → any_of_ports asked (p ∷ ps) ≡ Ok false
    → (q ≡ p) ⊎ Has q ps → (any_of_ports asked ps ≡ Ok false → Has q ps → is_false (asked q) ≡ true) → is_false (asked q) ≡ true
none_first asked p ps q (Err f) e none has rest = absurd (err_ok (sym (any_fails asked p ps f e) ∙ none))
none_first asked p ps q (Ok true) e none has rest = absurd (false≢true (sym (ok_told (sym (any_is_true asked p ps e) ∙ none))))
none_first asked p ps q (Ok false) e none (inl same) rest = ap is_false (ap asked same ∙ e)
none_first asked p ps q (Ok false) e none (inr more) rest = rest (sym (any_goes_on asked p ps e) ∙ none) more

-- so it is false of each port
pub any_none : (asked : Asked) (ps : List Port) → any_of_ports asked ps ≡ Ok false → (q : Port) → Has q ps → is_false (asked q) ≡ true
any_none asked [] none q has = absurd (not_in_none has)
any_none asked (p ∷ ps) none q has = none_first asked p ps q (asked p) refl none (has_cases has) (λ e more. any_none asked ps e q more)

-- what was added to a count
so_many_told : (n : ℕ) (r : Result ℕ Failure) (k : ℕ) → and_so_many n r ≡ Ok k → (m : ℕ) × (r ≡ Ok m) × (n + m ≡ k)
so_many_told n (Ok m) k e = (m, refl, ok_told e)
so_many_told n (Err f) k e = absurd (err_ok e)

-- a count comes to a number, where the first port has this answer
count_first : (asked : Asked) (p : Port) (ps : List Port) (k : ℕ) (r : Result Bool Failure) → asked p ≡ r → count_of_ports asked (p ∷ ps) ≡ Ok k
    → ((m : ℕ) → count_of_ports asked ps ≡ Ok m → count_by (λ q. is_true (asked q)) ps ≡ m) → count_by (λ q. is_true (asked q)) (p ∷ ps) ≡ k
count_first asked p ps k (Err f) is e rest = absurd (err_ok (sym (count_fails asked p ps f is) ∙ e))
count_first asked p ps k (Ok true) is e rest =
    let told = so_many_told 1 (count_of_ports asked ps) k (sym (count_one_more asked p ps is) ∙ e) in
    let more = rest told.0 told.1 in
    let first : cond (is_true (asked p)) 1 0 ≡ 1 = ap (λ r. cond (is_true r) 1 0) is in
    count_cons (λ q. is_true (asked q)) p ps ∙ (λ i. first i + more i) ∙ told.2
count_first asked p ps k (Ok false) is e rest =
    let more = rest k (sym (count_goes_on asked p ps is) ∙ e) in
    let first : cond (is_true (asked p)) 1 0 ≡ 0 = ap (λ r. cond (is_true r) 1 0) is in
    let none : 0 + k ≡ k = omega arith in
    count_cons (λ q. is_true (asked q)) p ps ∙ (λ i. first i + more i) ∙ none

-- it has counted those ports of which it is true
pub count_told : (asked : Asked) (ps : List Port) (k : ℕ) → count_of_ports asked ps ≡ Ok k → count_by (λ p. is_true (asked p)) ps ≡ k
count_told asked [] k e = ok_told e
count_told asked (p ∷ ps) k e = count_first asked p ps k (asked p) refl e (λ m is. count_told asked ps m is)
