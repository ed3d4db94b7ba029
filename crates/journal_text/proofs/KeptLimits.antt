-- What is known of an entry stays known of how it is written again, and without its old values.
use Rattle.std.proofs.Common.{◌≡◌, ◌≤◌, ℕ, Bool, true, false, List, [], ◌∷◌, ◌++◌, map, Some, None, refl, sym, ap, subst, ◌∙◌}
use Rattle.std.specs.Prelude.{◌&&◌, nat_le, nat_lt}
use Rattle.std.specs.List.{All, list_all, flat_map}
use Rattle.std.proofs.lemmas.Bool.{and_parts}
use Rattle.std.proofs.lemmas.List.{length-map, map-id}
use Rattle.std.proofs.lemmas.List.Folds.{list_all-append}
use Rattle.std.proofs.lemmas.List.Elements.{All-nil, All-cons, All-head, All-tail}
use Rattle.std.proofs.lemmas.Simd.{map-map}
use Rattle.amoebot_state.specs.declared.verdict.Entry.{Entry}
use Rattle.amoebot_state.specs.Limits.{most_pairs}
use Rattle.amoebot_state.specs.Pairs.{CellChange, Triples, plain_triple}
use Rattle.amoebot_state.specs.Steps.{plain_entry}
use Rattle.journal_text.specs.Limits.{last_caller, last_turn}
use Rattle.journal_text.specs.Journals.{WrittenChange, WrittenEntry, ids_of_name, ids_of_value, ids_of_change, is_known, full_change, entry_by, plain_by}
use Rattle.journal_text.specs.Texts.{change_in_full, written_full, change_of_pair, written_plain}
use Rattle.journal_text.specs.Rereading.{IsWritableChange, PlainKeepsLimits}

module _ (bots : ℕ) where
  abbrev are_there : List ℕ → Bool
  are_there ids = list_all (λ id. nat_lt id bots) ids

  -- where those of each cell stay there, those of all do
  module _ {A : Type 0} (f g : A → WrittenChange) (one : (a : A) → are_there (ids_of_change (f a)) ≡ true → are_there (ids_of_change (g a)) ≡ true) where
    all_stay : (xs : List A) → are_there (flat_map ids_of_change (map f xs)) ≡ true → are_there (flat_map ids_of_change (map g xs)) ≡ true
    all_stay [] e = refl
    all_stay (a ∷ xs) e =
        let both = and_parts (are_there (ids_of_change (f a))) (are_there (flat_map ids_of_change (map f xs))) (sym (list_all-append (λ id. nat_lt id bots) (ids_of_change (f a)) (flat_map ids_of_change (map f xs))) ∙ e) in
        list_all-append (λ id. nat_lt id bots) (ids_of_change (g a)) (flat_map ids_of_change (map g xs)) ∙ ap (λ b. b && are_there (flat_map ids_of_change (map g xs))) (one a both.0) ∙ all_stay xs both.1

  -- the three parts of the amoebots of a cell
  parts_of : (xs ys zs : List ℕ) → are_there (xs ++ (ys ++ zs)) ≡ true → (are_there xs ≡ true) × (are_there ys ≡ true) × (are_there zs ≡ true)
  parts_of xs ys zs e =
      let first = and_parts (are_there xs) (are_there (ys ++ zs)) (sym (list_all-append (λ id. nat_lt id bots) xs (ys ++ zs)) ∙ e) in
      let second = and_parts (are_there ys) (are_there zs) (sym (list_all-append (λ id. nat_lt id bots) ys zs) ∙ first.1) in
      (first.0, second.0, second.1)

  of_parts : (xs ys zs : List ℕ) → are_there xs ≡ true → are_there ys ≡ true → are_there zs ≡ true → are_there (xs ++ (ys ++ zs)) ≡ true
  of_parts xs ys zs a b c =
      list_all-append (λ id. nat_lt id bots) xs (ys ++ zs) ∙ ap (λ x. x && are_there (ys ++ zs)) a ∙ list_all-append (λ id. nat_lt id bots) ys zs ∙ ap (λ x. x && are_there zs) b ∙ c

  stay_in_full : (t : WrittenChange) → are_there (ids_of_change t) ≡ true → are_there (ids_of_change (change_in_full (full_change t))) ≡ true
  stay_in_full (c, None, x) e = let p = parts_of (ids_of_name c) [] (ids_of_value x) e in of_parts (ids_of_name c) (ids_of_value x) (ids_of_value x) p.0 p.2 p.2
  stay_in_full (c, Some o, x) e = e

  stay_plain : (t : CellChange) → are_there (ids_of_change (change_in_full t)) ≡ true
      → are_there (ids_of_change (change_of_pair (plain_triple t))) ≡ true
  stay_plain t e =
      let p = parts_of (ids_of_name t.0) (ids_of_value t.1) (ids_of_value t.2) e in
      of_parts (ids_of_name t.0) [] (ids_of_value t.2) p.0 refl p.2

  both_stay : (n m x y : Bool) → (x ≡ true → y ≡ true) → (n && (m && x)) ≡ true → (n && (m && y)) ≡ true
  both_stay true true x y h e = h e
  both_stay true false x y h e = absurd cc
  both_stay false m x y h e = absurd cc

  module _ (actions : ℕ) where
    abbrev numbers_known : WrittenEntry → Bool
    numbers_known w = nat_le w.caller last_caller && nat_le w.turn last_turn && nat_lt w.action actions

    -- what was read of a text
    pub known_full : (w : WrittenEntry) → is_known bots actions w ≡ true → is_known bots actions (written_full (entry_by w)) ≡ true
    known_full w =
        both_stay (numbers_known w) (nat_lt w.bot bots) _ _ (λ e.
        ap (λ ts. are_there (flat_map ids_of_change ts)) (map-map change_in_full full_change w.changes)
        ∙ all_stay (λ t. t) (λ t. change_in_full (full_change t)) stay_in_full w.changes (ap (λ ts. are_there (flat_map ids_of_change ts)) (map-id w.changes) ∙ e))

    -- an entry without its old values
    pub known_without : (e : Entry) → is_known bots actions (written_full e) ≡ true → is_known bots actions (written_plain (plain_entry e)) ≡ true
    known_without e =
        both_stay (numbers_known (written_full e)) (nat_lt e.bot bots) _ _ (λ s.
        ap (λ ts. are_there (flat_map ids_of_change ts)) (map-map change_of_pair plain_triple e.patch)
        ∙ all_stay change_in_full (λ t. change_of_pair (plain_triple t)) stay_plain e.patch s)

    pub known_plain : (w : WrittenEntry) → is_known bots actions w ≡ true
        → is_known bots actions (written_plain (plain_by w)) ≡ true
    known_plain w known = known_without (entry_by w) (known_full w known)

module _ (vars : ℕ) where
  writable_without : (ts : Triples) → All (IsWritableChange vars) (map change_in_full ts) → All (IsWritableChange vars) (map change_of_pair (map plain_triple ts))
  writable_without [] all = All-nil (IsWritableChange vars)
  writable_without (t ∷ ts) all =
      All-cons (IsWritableChange vars) (change_of_pair (plain_triple t)) (map change_of_pair (map plain_triple ts)) (tt, (All-head (IsWritableChange vars) (change_in_full t) (map change_in_full ts) all).1)
      (writable_without ts (All-tail (IsWritableChange vars) (change_in_full t) (map change_in_full ts) all))

pub plain_keeps_limits : PlainKeepsLimits
plain_keeps_limits bots actions vars e k = record {
  known = known_without bots actions e k.known;
  movement = k.movement;
  few = let same = length-map (map plain_triple e.patch) change_of_pair ∙ length-map e.patch plain_triple ∙ sym (length-map e.patch change_in_full) in subst (λ (n : ℕ). n ≤ most_pairs) (sym same) k.few;
  pairs = writable_without vars e.patch k.pairs;
}
