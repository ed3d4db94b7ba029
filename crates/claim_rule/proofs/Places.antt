-- The places of seats while some of them are out.
use Rattle.std.proofs.Common.{◌≡◌, ℕ, ◌<◌, List, length, map, set, get_or, Bool, true, false, Option, Some, None, ap, sym, ◌∙◌, arith}
use Rattle.std.specs.Prelude.{slice_get, is_some, IsSome}
use Rattle.std.specs.List.{All}
use Rattle.std.proofs.lemmas.Bool.{false≢true}
use Rattle.std.proofs.lemmas.List.{map-set, length-map, get_or-map}
use Rattle.std.proofs.lemmas.Option.{slice_get_within}
use Rattle.claim_core.proofs.Places.{get-map, map-get, get-set_here}
use Rattle.claim_rule.specs.Tokens.{Token, number_in}
use Rattle.claim_rule.specs.Seating.{SeatsOf}
use Rattle.claim_rule.proofs.SeatsLemmas.{set_back}

module _ {A : Type 0} where
  -- where the same places have an element, and all have one, all have one
  pub all_there : (xs ys : List (Option A)) → map is_some ys ≡ map is_some xs → All (λ o. IsSome o) xs → All (λ o. IsSome o) ys
  all_there xs ys same all k d lt =
      let long = sym (length-map ys is_some) ∙ ap (λ (bs : List Bool). length bs) same ∙ length-map xs is_some in
      let there : k < length xs = omega (arith, lt, long) in
      sym (get_or-map is_some ys k d false lt) ∙ ap (λ (bs : List Bool). get_or bs k false) same ∙ get_or-map is_some xs k d false there ∙ all k d there

  -- a place that was emptied is empty still
  pub empty_still : (xs ys : List (Option A)) (n : ℕ) → map is_some ys ≡ map is_some xs → slice_get xs n ≡ Some None → slice_get ys n ≡ Some None
  empty_still xs ys n same empty =
      let is = map-get is_some ys n false (ap (λ (bs : List Bool). slice_get bs n) same ∙ get-map is_some xs n None empty) in
      none is.0 is.1 is.2
    where
      none : (o : Option A) → slice_get ys n ≡ Some o → is_some o ≡ false → slice_get ys n ≡ Some None
      none None at f = at
      none (Some x) at f = absurd (false≢true (sym f))

  -- and once an element is back, the same places have one as before it was taken
  pub same_places : (xs ys : List (Option A)) (n : ℕ) (x y : A) → slice_get xs n ≡ Some (Some x) → map is_some ys ≡ map is_some (set xs n None) → map is_some (set ys n (Some y)) ≡ map is_some xs
  same_places xs ys n x y there same =
      map-set is_some ys n (Some y) ∙ ap (λ (bs : List Bool). set bs n true) (same ∙ map-set is_some xs n None) ∙ set_back (map is_some xs) n true false (get-map is_some xs n (Some x) there)

-- a seat that was taken, and comes back after some turns, while others were taken and came back
module _ {D : Type 0} (old mid after : SeatsOf D) (seat again : Token D) (there : slice_get old.seats (number_in seat) ≡ Some (Some seat)) (taken : mid ≡ record old { seats = set old.seats (number_in seat) None }) (same : map is_some after.seats ≡ map is_some mid.seats) (number : number_in again ≡ number_in seat) where
  -- its place is empty until then
  pub is_out : slice_get after.seats (number_in again) ≡ Some None
  is_out =
      let here = ap (λ (s : SeatsOf D). slice_get s.seats (number_in seat)) taken ∙ get-set_here old.seats (number_in seat) None (slice_get_within old.seats (number_in seat) (Some seat) there) in
      ap (slice_get after.seats) number ∙ empty_still mid.seats after.seats (number_in seat) same here

  -- and then the same places have a seat as before
  pub is_back : (new : SeatsOf D) → new ≡ record after { seats = set after.seats (number_in again) (Some again) } → map is_some new.seats ≡ map is_some old.seats
  is_back new given =
      ap (λ (s : SeatsOf D). map is_some s.seats) given
      ∙ ap (λ (k : ℕ). map is_some (set after.seats k (Some again))) number
      ∙ same_places old.seats after.seats (number_in seat) seat again there (same ∙ ap (λ (s : SeatsOf D). map is_some s.seats) taken)
