-- What the seats of a field keep when one is given out or comes back.
use Rattle.std.proofs.Common.{◌≡◌, ◌≢◌, ℕ, zero, suc, ◌<◌, List, [], ◌∷◌, length, set, get_or, Option, Some, None, inl, inr, ap, sym, subst, ◌∙◌, length-set}
use Rattle.std.specs.Prelude.{slice_get, IfSome}
use Rattle.std.proofs.lemmas.Option.{none-some, same_Some, slice_get-get_or}
use Rattle.atomic_table.specs.Seated.{TableId}
use Rattle.claim_core.proofs.Places.{get-set_cases}
use Rattle.claim_rule.specs.Views.{Seated}
use Rattle.claim_rule.specs.Tokens.{Token, number_in}
use Rattle.claim_rule.specs.Seating.{SeatsOf, IsFirst, AreSeats}

module _ {D : Type 0} (rest : Seated D) (table : TableId) (seats : List (Option (Token D))) (are : AreSeats rest table seats) where
  -- a seat is given out
  pub given : (c : ℕ) → AreSeats rest table (set seats c None)
  given c = record {
    terms = are.terms;
    dealt = are.dealt;
    count = length-set seats c None ∙ are.count;
    each = λ d t e. elim (get-set_cases seats c d None (Some t) e) [
      | inl here ↦ absurd (none-some t here.1)
      | inr else ↦ are.each d t else.1
    ];
  }

  -- a seat comes back to its place
  pub taken_back : (t : Token D) → t.table ≡ table → t.view.terms ≡ Some are.terms → AreSeats rest table (set seats (number_in t) (Some t))
  taken_back t same terms = record {
    terms = are.terms;
    dealt = are.dealt;
    count = length-set seats (number_in t) (Some t) ∙ are.count;
    each = λ d u e. elim (get-set_cases seats (number_in t) d (Some t) (Some u) e) [
      | inl here ↦
          let is = same_Some t u here.1 in
          subst (λ (v : Token D). (v.table ≡ table) × (v.view.terms ≡ Some are.terms) × (number_in v ≡ d)) is (same, terms, sym here.0)
      | inr else ↦ are.each d u else.1
    ];
  }

  -- the first seat that is there stands at its caller's number
  pub first_is : (c : ℕ) (t : Token D) → slice_get seats c ≡ Some (Some t) → ((d : ℕ) → d < c → slice_get seats d ≡ Some None) → IsFirst seats t × (c ≡ number_in t)
  first_is c t there least =
      let same = sym ((are.each c t there).2) in
      (record { there = ap (slice_get seats) (sym same) ∙ there; least = λ d lt. least d (subst (λ n. d < n) (sym same) lt) }, same)

  -- what is taken from the first place that has a seat is that seat, and its place is empty then
  abbrev with_seats : List (Option (Token D)) → SeatsOf D
  with_seats xs = record { table = table; terms = rest.0.terms; seats = xs }

  abbrev without : SeatsOf D → Token D → SeatsOf D
  without s t = record { table = s.table; terms = s.terms; seats = set s.seats (number_in t) None }

  pub takes : (old : SeatsOf D) (c : ℕ) (r now out : Option (Token D)) → with_seats seats ≡ old → r ≡ now → now ≡ get_or seats c now → out ≡ None → c < length seats → slice_get seats c ≢ Some None
      → ((d : ℕ) → d < c → slice_get seats d ≡ Some None)
      → IfSome r (λ t. IsFirst old.seats t × (with_seats (set seats c out) ≡ without old t))
  takes old c r now out is taken there gone lt some least = by r (slice_get-get_or seats c now lt ∙ ap (λ o. Some o) (sym there ∙ sym taken))
    where
      by : (o : Option (Token D)) → slice_get seats c ≡ Some o → IfSome o (λ t. IsFirst old.seats t × (with_seats (set seats c out) ≡ without old t))
      by None e = absurd (some e)
      by (Some t) e =
          let first = first_is c t e least in
          (subst (λ (s : SeatsOf D). IsFirst s.seats t) is first.0, λ i. record { table = (is i).table; terms = (is i).terms; seats = set (is i).seats (first.1 i) (gone i) })

  -- and it is one of the field
  pub takes_own : (old : SeatsOf D) (r : Option (Token D)) (After : Token D → Type 0) → with_seats seats ≡ old → IfSome r (λ t. IsFirst old.seats t × After t) → IfSome r (λ t. (t.table ≡ old.table) × (t.view.terms ≡ old.terms))
  takes_own old None After is has = has
  takes_own old (Some t) After is has =
      let of = are.each (number_in t) t (ap (λ (s : SeatsOf D). slice_get s.seats (number_in t)) is ∙ has.0.there) in
      (of.0 ∙ ap (λ (s : SeatsOf D). s.table) is, of.1 ∙ sym (ap (λ (m : Seated D). m.0.terms) are.dealt) ∙ ap (λ (s : SeatsOf D). s.terms) is)

-- an element that was replaced comes back to its place
pub set_back : {A : Type 0} (xs : List A) (n : ℕ) (x y : A) → slice_get xs n ≡ Some x → set (set xs n y) n x ≡ xs
set_back [] n x y e = absurd (none-some x e)
set_back (a ∷ xs) zero x y e = ap (λ b. b ∷ xs) (sym (same_Some a x e))
set_back (a ∷ xs) (suc n) x y e = ap (λ ys. a ∷ ys) (set_back xs n x y e)

-- the seats are as before once the seat that was taken is back
pub back_again : {D : Type 0} (old mid new : SeatsOf D) (t : Token D) → slice_get old.seats (number_in t) ≡ Some (Some t) → mid ≡ record old { seats = set old.seats (number_in t) None } → new ≡ record mid { seats = set mid.seats (number_in t) (Some t) } → new ≡ old
back_again {D} old mid new t there taken given =
    given ∙ (λ i. let m : SeatsOf D = taken i in let n : SeatsOf D = record { table = m.table; terms = m.terms; seats = set m.seats (number_in t) (Some t) } in n)
    ∙ (λ i. let n : SeatsOf D = record { table = old.table; terms = old.terms; seats = set_back old.seats (number_in t) (Some t) None there i } in n)
