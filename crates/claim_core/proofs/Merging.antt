-- The merge of callers' own lists: one entry after another is found by its place.
use Rattle.std.proofs.Common.{◌≡◌, ℕ, zero, suc, ◌+◌, ◌<◌, List, [], ◌∷◌, length, drop, set, get_or, length-set, Some, inl, inr, ap, sym, refl, subst, ◌∙◌, arith}
use Rattle.std.specs.Prelude.{slice_get}
use Rattle.std.proofs.lemmas.Bool.{cases_eq, cases_lt}
use Rattle.std.proofs.lemmas.List.{get_or-set_same, get_or-set_other, get_or_past}
use Rattle.std.proofs.lemmas.List.Elements.{All-nil, All-cons, All-head, All-tail, All-weaker}
use Rattle.std.proofs.lemmas.Option.{none-some}
use Rattle.amoebot_state.specs.declared.verdict.Entry.{Entry}
use Rattle.claim_core.specs.Reached.{entries_of}
use Rattle.claim_core.specs.Merges.{own_of, AreLeft, small_entry, small_lists, small_merge}
use Rattle.claim_core.specs.TicketLaws.{MergeIsOne, NextIsFirst, NoPlaceNoEntry, SmallMerge}
use Rattle.claim_core.proofs.OwnEntries.{own_first, other_first, not_before, same_entries}

abbrev IsListed : ℕ → Entry → Type 0
IsListed n e = e.caller < n

pub merge_is_one : MergeIsOne
merge_is_one lists place es fs left right = same_entries (length lists) place es fs left.listed right.listed (λ c lt. sym (left.own c lt) ∙ right.own c lt)

pub next_is_first : NextIsFirst
next_is_first lists place e es left = record { first = first; only = only; rest = rest }
  where
    inside : e.caller < length lists
    inside = All-head (IsListed (length lists)) e es left.listed

    own : own_of lists e.caller ≡ (place, e) ∷ entries_of e.caller (place + 1) es
    own = left.own e.caller inside ∙ own_first e.caller place e es refl

    first : slice_get (own_of lists e.caller) 0 ≡ Some (place, e)
    first = ap (λ ys. slice_get ys 0) own

    only : (c : ℕ) (p : ℕ × Entry) → slice_get (own_of lists c) 0 ≡ Some p → p.0 ≡ place → c ≡ e.caller
    only c p at same = elim (cases_eq e.caller c) [
      | inl is ↦ sym is
      | inr not ↦ elim (cases_lt c (length lists)) [
        | inl lt ↦ let n = not_before c (place + 1) p.0 p.1 es (ap (λ ys. slice_get ys 0) (sym (left.own c lt ∙ other_first c place e es not)) ∙ at) in absurd (omega (arith, n, same))
        | inr le ↦ absurd (none-some p (ap (λ ys. slice_get ys 0) (sym (get_or_past lists c [] le)) ∙ at))
      ]
    ]

    shorter : List (List (ℕ × Entry))
    shorter = set lists e.caller (drop 1 (own_of lists e.caller))

    as_many : length shorter ≡ length lists
    as_many = length-set lists e.caller (drop 1 (own_of lists e.caller))

    rest : AreLeft shorter (place + 1) es
    rest = record {
      own = λ c lt. elim (cases_eq c e.caller) [
        | inl is ↦ subst (λ d. get_or shorter d [] ≡ entries_of d (place + 1) es) (sym is) (get_or-set_same lists e.caller (drop 1 (own_of lists e.caller)) [] inside ∙ ap (drop 1) own)
        | inr not ↦ get_or-set_other lists e.caller c (drop 1 (own_of lists e.caller)) [] not ∙ left.own c (omega (arith, lt, as_many)) ∙ other_first c place e es (λ q. not (sym q))
      ];
      listed = All-weaker (IsListed (length lists)) (IsListed (length shorter)) (λ x lt. omega (arith, lt, as_many)) es (All-tail (IsListed (length lists)) e es left.listed);
    }

pub no_place_no_entry : NoPlaceNoEntry
no_place_no_entry lists place [] left none = refl
no_place_no_entry lists place (e ∷ es) left none = absurd (none e.caller (place, e) (next_is_first lists place e es left).first refl)

abbrev IsSmall : Entry → Type 0
IsSmall = IsListed (length small_lists)

pub small_merge_is_one : SmallMerge
small_merge_is_one = record {
  own = own;
  listed = All-cons IsSmall (small_entry 0 0) (small_entry 2 0 ∷ small_entry 0 1 ∷ []) (omega arith) (All-cons IsSmall (small_entry 2 0) (small_entry 0 1 ∷ []) (omega arith) (All-cons IsSmall (small_entry 0 1) [] (omega arith) (All-nil IsSmall)));
}
  where
    own : (c : ℕ) → c < length small_lists → own_of small_lists c ≡ entries_of c 0 small_merge
    own zero lt = refl
    own (suc zero) lt = refl
    own (suc (suc zero)) lt = refl
    own (suc (suc (suc c))) lt = absurd (omega (arith, lt))
