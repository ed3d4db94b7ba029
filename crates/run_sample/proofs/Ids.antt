-- The ids of a caller, one number after another, and the lists of the callers, one after another.
use Rattle.std.proofs.Common.{◌≡◌, ◌≢◌, ◌+◌, ◌<◌, subst, inl, inr, ◌++◌, ◌∷◌, [], ℕ, zero, suc, List, Bool, true, false, cond, length, map, ap, refl, sym, ◌∙◌, arith}
use Rattle.std.specs.Prelude.{◌%◌, ◌==◌}
use Rattle.std.proofs.lemmas.Bool.{cases_Bool, eqb-true, eq-eqb}
use Rattle.std.specs.List.{filter, range_with_len}
use Rattle.std.proofs.lemmas.List.{map-id, append-nil}
use Rattle.std.proofs.lemmas.List.FromFn.{filter_of_map_range_with_len_more, map-range_with_len_more, length-map-range_with_len}
use Rattle.claim_core.specs.Turns.{CallerLists, IsList, AreFew}
use Rattle.run_sample.specs.Callers.{ids_below, ids_of}

pub no_ids : (c : ℕ) → ids_below 0 c ≡ []
unfolding ids_below
no_ids c = refl

ids_more : (c n : ℕ) → ids_below (n + 1) c ≡ ids_below n c ++ cond (n % 4 == c) (n ∷ []) []
unfolding ids_below
ids_more c n =
    let p : ℕ → Bool = λ id. id % 4 == c in
    ap (filter p) (sym (map-id (range_with_len 0 (n + 1)))) ∙ filter_of_map_range_with_len_more p (λ k. k) 0 n n (omega arith)
    ∙ ap (λ (ks : List ℕ). filter p ks ++ cond (p n) (n ∷ []) []) (map-id (range_with_len 0 n))

-- a number that is the caller's comes behind its ids
pub id_comes : (c n : ℕ) (ids more : List ℕ) → ids ≡ ids_below n c → n % 4 ≡ c → more ≡ ids ++ n ∷ [] → more ≡ ids_below (n + 1) c
id_comes c n ids more old same e =
    let t : (n % 4 == c) ≡ true = eq-eqb (n % 4) c same in
    e ∙ ap (λ (ks : List ℕ). ks ++ n ∷ []) old ∙ sym (ids_more c n ∙ ap (λ b. ids_below n c ++ cond b (n ∷ []) []) t)

-- another leaves them
pub id_passes : (c n : ℕ) (ids : List ℕ) → ids ≡ ids_below n c → n % 4 ≢ c → ids ≡ ids_below (n + 1) c
id_passes c n ids old ne =
    let f : (n % 4 == c) ≡ false = elim (cases_Bool (n % 4 == c)) [ inl t ↦ absurd (ne (eqb-true (n % 4) c t)) | inr f ↦ f ] in
    old ∙ sym (ids_more c n ∙ ap (λ b. ids_below n c ++ cond b (n ∷ []) []) f ∙ append-nil _)

-- a caller has 37 or 38 ids
pub ids_list : (c : ℕ) → c < 4 → IsList (ids_of c)
unfolding ids_below
ids_list zero lt = record { some = omega arith; few = omega arith }
ids_list (suc zero) lt = record { some = omega arith; few = omega arith }
ids_list (suc (suc zero)) lt = record { some = omega arith; few = omega arith }
ids_list (suc (suc (suc zero))) lt = record { some = omega arith; few = omega arith }
ids_list (suc (suc (suc (suc c)))) lt = absurd (omega arith)

-- the lists of the first so many callers
abbrev pub first_lists : ℕ → CallerLists
first_lists n = record { turns = 4000; ids = map ids_of (range_with_len 0 n) }

abbrev with_list : CallerLists → List ℕ → CallerLists
with_list lists ids = record lists { ids = lists.ids ++ ids ∷ [] }

abbrev with_ids : List (List ℕ) → CallerLists
with_ids ids = record { turns = 4000; ids = ids }

-- the list of the next caller comes behind them
pub list_comes : (n : ℕ) (old new : CallerLists) (lent ids : List ℕ) → old ≡ first_lists n → ids ≡ ids_of n → lent ≡ ids → new ≡ record { turns = old.turns; ids = old.ids ++ lent ∷ [] } → new ≡ first_lists (n + 1)
list_comes n old new lent ids before is same e =
    e ∙ ap (with_list old) (same ∙ is) ∙ ap (λ (l : CallerLists). with_list l (ids_of n)) before ∙ ap with_ids (sym (map-range_with_len_more ids_of 0 n n (omega arith)))

-- there is room for one more
pub few_so_far : (n : ℕ) (lists : CallerLists) → lists ≡ first_lists n → n < 4 → AreFew (length lists.ids + 1) lists.turns
few_so_far n lists is lt =
    let many = length-map-range_with_len ids_of 0 n in
    subst (λ (l : CallerLists). AreFew (length l.ids + 1) l.turns) (sym is) (record { at_most_16 = omega arith; in_all = omega arith })
