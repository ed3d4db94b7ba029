-- Seats that are taken one after another, and given back.
use Rattle.std.proofs.Common.{◌≡◌, ℕ, zero, suc, ◌<◌, ◌↔◌, List, [], ◌∷◌, ◌++◌, map, length, set, Option, Some, None, inl, inr, ap, sym, refl, ◌∙◌, subst, arith}
use Rattle.std.specs.Prelude.{slice_get, IfSome}
use Rattle.std.specs.List.{All}
use Rattle.std.proofs.lemmas.Bool.{cases_lt}
use Rattle.std.proofs.lemmas.Option.{none-some, same_Some, slice_get_within, get_or_from_slice_get}
use Rattle.claim_rule.specs.Tokens.{Token, number_in}
use Rattle.claim_rule.specs.Seating.{SeatsOf, IsFirst}

module _ {A : Type 0} where
  -- places whose seats are out, before others
  abbrev pub out_before : List (Option A) → List (Option A) → List (Option A)
  out_before gone others = map (λ _. None) gone ++ others

  pub one_taken : (gone : List (Option A)) (x : Option A) (others : List (Option A)) → set (out_before gone (x ∷ others)) (length gone) None ≡ out_before (gone ++ x ∷ []) others
  one_taken [] x others = refl
  one_taken (g ∷ gone) x others = ap (λ zs. None ∷ zs) (one_taken gone x others)

  pub one_given : (left : List (Option A)) (x : Option A) (given : List (Option A)) → set (out_before (left ++ x ∷ []) given) (length left) x ≡ out_before left (x ∷ given)
  one_given [] x given = refl
  one_given (y ∷ left) x given = ap (λ zs. None ∷ zs) (one_given left x given)

  -- what stands behind them
  next_there : (gone : List (Option A)) (x : Option A) (others : List (Option A)) → slice_get (out_before gone (x ∷ others)) (length gone) ≡ Some x
  next_there [] x others = refl
  next_there (g ∷ gone) x others = next_there gone x others

  is_out : (gone others : List (Option A)) (c : ℕ) → c < length gone → slice_get (out_before gone others) c ≡ Some None
  is_out [] others c lt = absurd (omega (arith, lt))
  is_out (g ∷ gone) others zero lt = refl
  is_out (g ∷ gone) others (suc c) lt = is_out gone others c (omega (arith, lt))

  -- the last one that was taken is out, and stands at its place
  pub last_is_out : (left : List (Option A)) (x : Option A) (given : List (Option A)) → slice_get (out_before (left ++ x ∷ []) given) (length left) ≡ Some None
  last_is_out [] x given = refl
  last_is_out (y ∷ left) x given = last_is_out left x given

  not_all_out : (gone : List (Option A)) (t : A) (others : List (Option A)) → All (λ seat. seat ≡ None) (out_before gone (Some t ∷ others)) → ⊥
  not_all_out gone t others all =
      let there = next_there gone (Some t) others in
      none-some t (sym (all (length gone) None (slice_get_within (out_before gone (Some t ∷ others)) (length gone) (Some t) there)) ∙ get_or_from_slice_get (out_before gone (Some t ∷ others)) (length gone) (Some t) None there)

module _ {D : Type 0} (gone others : List (Option (Token D))) (t : Token D) where
  abbrev pub here : List (Option (Token D))
  here = out_before gone (Some t ∷ others)

  -- the seat of the least number is the one behind those that are out
  first_is : (s : Token D) → IsFirst here s → (number_in s ≡ length gone) × (s ≡ t)
  first_is s first = elim (cases_lt (number_in s) (length gone)) [
    | inl before ↦ absurd (none-some s (same_Some None (Some s) (sym (is_out gone (Some t ∷ others) (number_in s) before) ∙ first.there)))
    | inr from ↦ elim (cases_lt (length gone) (number_in s)) [
      | inl behind ↦ absurd (none-some t (same_Some None (Some t) (sym (first.least (length gone) behind) ∙ next_there gone (Some t) others)))
      | inr to ↦
          let same : number_in s ≡ length gone = omega (arith, from, to) in
          (same, same_Some s t (same_Some (Some s) (Some t) (sym first.there ∙ ap (slice_get here) same ∙ next_there gone (Some t) others)))
    ]
  ]

  -- so that one is taken
  pub next_is_taken : (old : SeatsOf D) (now : SeatsOf D) (r : Option (Token D)) → old.seats ≡ here → ((r ≡ None) ↔ All (λ seat. seat ≡ None) old.seats)
      → IfSome r (λ s. IsFirst old.seats s × (now ≡ record old { seats = set old.seats (number_in s) None }))
      → (r ≡ Some t) × (now ≡ record old { seats = out_before (gone ++ Some t ∷ []) others })
  next_is_taken old now None are none first = absurd (not_all_out gone t others (subst (All (λ seat. seat ≡ None)) are (none.0 refl)))
  next_is_taken old now (Some s) are none first =
      let is = first_is s (subst (λ xs. IsFirst xs s) are first.0) in
      (ap (λ u. Some u) is.1, first.1 ∙ (λ i. record old { seats = set (are i) (is.0 i) None }) ∙ ap (λ xs. record old { seats = xs }) (one_taken gone (Some t) others))
