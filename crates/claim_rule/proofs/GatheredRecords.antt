-- The records of all seats while they are gathered, the last seat first.
use Rattle.std.proofs.Common.{◌≡◌, ◌⊎◌, ℕ, ◌<◌, List, [], ◌∷◌, ◌++◌, length, Option, Some, None, inl, inr, ap, sym, ◌∙◌, arith, length-append}
use Rattle.std.specs.Prelude.{slice_get}
use Rattle.std.proofs.lemmas.Bool.{cases_eq}
use Rattle.std.proofs.lemmas.List.{append-nil, append_assoc}
use Rattle.std.proofs.lemmas.Option.{none-some, same_Some, slice_get_within}
use Rattle.atomic_table.specs.Seated.{TableId}
use Rattle.amoebot_state.proofs.Fronts.{slice_get_behind}
use Rattle.claim_core.proofs.Places.{get-append_left}
use Rattle.claim_rule.specs.declared.views.Record.{Record}
use Rattle.claim_rule.specs.declared.views.Terms.{Terms}
use Rattle.claim_rule.specs.Views.{Seated, view_of, own, seen}
use Rattle.claim_rule.specs.Tokens.{Token, record_in, doing}
use Rattle.claim_rule.specs.Internal.{joined_view}

-- each seat is still there or has its record at the first seat
pub record Gathered {D : Type 0} (z : Terms D) (all left : List (Option (Token D))) (m : Seated D) : Type 0 where
  pub records : List Record
  pub has : m ≡ (view_of z records, [])
  pub gone : List (Option (Token D))
  pub parts : all ≡ left ++ gone
  pub each : (c : ℕ) (t : Token D) → slice_get all c ≡ Some (Some t) → (c < length left) ⊎ ((place : ℕ) × (slice_get records place ≡ Some (record_in t)) × ((record_in t).taken ≡ None) × ((doing t).held ≡ []))

module _ {D : Type 0} (z : Terms D) where
  -- what a seat with one record knows and has
  pub one_record : (m : Seated D) (t : Token D) (table : TableId) → record { table = table; view = seen m.0 } ≡ t → m.0.records ≡ own m.0 ∷ [] → (own m.0).won ≡ [] → (own m.0).note ≡ None → m.1 ≡ [] → t.view.terms ≡ Some z → m ≡ (view_of z (record_in t ∷ []), [])
  one_record m t table is alone won note out terms =
      let same : m.0.terms ≡ Some z = ap (λ (u : Token D). u.view.terms) is ∙ terms in
      let mine : m.0.records ≡ record_in t ∷ [] = alone ∙ (λ i. record (own m.0) { won = won i; note = note i } ∷ []) ∙ ap (λ (u : Token D). record_in u ∷ []) is in
      λ i. (record { terms = same i; records = mine i }, out i)

  module _ (all : List (Option (Token D))) where
    -- at first no record is at the first seat
    pub none_gathered : (m : Seated D) → m ≡ (view_of z [], []) → Gathered z all all m
    none_gathered m is = record {
      records = [];
      has = is;
      gone = [];
      parts = sym (append-nil all);
      each = λ c t e. inl (slice_get_within all c (Some t) e);
    }

    module _ (left new : List (Option (Token D))) (o : Option (Token D)) (m : Seated D) (so_far : Gathered z all left m) (pops : left ≡ new ++ o ∷ []) where
      parts_now : all ≡ new ++ o ∷ so_far.gone
      parts_now = so_far.parts ∙ ap (λ xs. xs ++ so_far.gone) pops ∙ append_assoc new (o ∷ []) so_far.gone

      -- the place that is taken away is the last of those that were left
      pub last_is : slice_get all (length new) ≡ Some o
      last_is = ap (λ xs. slice_get xs (length new)) parts_now ∙ slice_get_behind new o so_far.gone

      -- its record, if it has one, is at the first seat then
      pub one_less : (m' : Seated D) (rs : List Record) → m' ≡ (view_of z rs, []) → ((k : ℕ) (r : Record) → slice_get so_far.records k ≡ Some r → slice_get rs k ≡ Some r)
          → ((t : Token D) → o ≡ Some t → (place : ℕ) × (slice_get rs place ≡ Some (record_in t)) × ((record_in t).taken ≡ None) × ((doing t).held ≡ [])) → Gathered z all new m'
      one_less m' rs has longer its = record {
        records = rs;
        has = has;
        gone = o ∷ so_far.gone;
        parts = parts_now;
        each = λ c t e. elim (so_far.each c t e) [
          | inl lt ↦ elim (cases_eq c (length new)) [
            | inl is ↦ inr (its t (same_Some o (Some t) (sym last_is ∙ ap (slice_get all) (sym is) ∙ e)))
            | inr not ↦ inl (let n = ap (λ (xs : List (Option (Token D))). length xs) pops ∙ length-append new (o ∷ []) in omega (arith, lt, n, not))
          ]
          | inr there ↦ inr (there.0, longer there.0 (record_in t) there.1, there.2, there.3)
        ];
      }

    -- an empty place is left out
    pub skipped : (left new : List (Option (Token D))) (m : Seated D) → Gathered z all left m → left ≡ new ++ None ∷ [] → Gathered z all new m
    skipped left new m so_far pops = one_less left new None m so_far pops m so_far.records so_far.has (λ k r e. e) (λ t e. absurd (none-some t e))

    -- a seat's record comes in behind the others
    pub taken_in : (left new : List (Option (Token D))) (t : Token D) (m other m' : Seated D) → Gathered z all left m → left ≡ new ++ Some t ∷ [] → (record_in t).taken ≡ None → (doing t).held ≡ [] → other ≡ (view_of z (record_in t ∷ []), []) → m' ≡ (joined_view m.0 other.0, m.1) → Gathered z all new m'
    taken_in left new t m other m' so_far pops none rests its is =
        one_less left new (Some t) m so_far pops m' (so_far.records ++ record_in t ∷ []) (is ∙ (λ i. (joined_view (so_far.has i).0 (its i).0, (so_far.has i).1)))
        (λ k r e. get-append_left so_far.records (record_in t ∷ []) k r e)
        (λ u e. let same = same_Some t u e in (length so_far.records, slice_get_behind so_far.records (record_in t) [] ∙ ap (λ (v : Token D). Some (record_in v)) same, ap (λ (v : Token D). (record_in v).taken) (sym same) ∙ none, ap (λ (v : Token D). (doing v).held) (sym same) ∙ rests))
