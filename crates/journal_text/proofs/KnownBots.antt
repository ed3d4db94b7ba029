-- Which amoebots cells with their values name.
use Rattle.std.proofs.Common.{◌≡◌, ℕ, suc, ◌+◌, Bool, true, false, List, [], ◌∷◌, ◌++◌, take, drop, map, slice_get, Option, Some, None, refl, ap, sym, ◌∙◌}
use Rattle.std.specs.Prelude.{◌&&◌, nat_lt, if◌then◌else◌}
use Rattle.std.specs.List.{list_all, flat_map}
use Rattle.std.specs.Option.{unwrap_or}
use Rattle.std.proofs.Math.Seq.{split_at}
use Rattle.std.proofs.lemmas.Grind.{flat_map-append}
use Rattle.std.proofs.lemmas.List.{map-append, append-nil}
use Rattle.std.proofs.lemmas.List.Folds.{list_all-append}
use Rattle.std.proofs.lemmas.Option.{slice_get_within, get_or_from_slice_get}
use Rattle.journal_text.specs.declared.journal.WrittenPair.{WrittenPair}
use Rattle.text_tokens.proofs.NextLines.{take_next}
use Rattle.journal_text.specs.Journals.{ids_of_change}
use Rattle.journal_text.specs.Views as view

module _ (bots : ℕ) where
  abbrev is_there : ℕ → Bool
  is_there id = nat_lt id bots

  -- the amoebots that a pair names are some of so many
  abbrev pub there : WrittenPair → Bool
  there p = list_all (λ id. nat_lt id bots) (ids_of_change (view.pair p))

  -- those that pairs name
  abbrev pub all_there : List WrittenPair → Bool
  all_there ps = list_all (λ id. nat_lt id bots) (flat_map ids_of_change (map view.pair ps))

  all_there-append : (ps qs : List WrittenPair) → all_there (ps ++ qs) ≡ (all_there ps && all_there qs)
  all_there-append ps qs = ap (λ xs. list_all is_there (flat_map ids_of_change xs)) (map-append view.pair ps qs) ∙ ap (list_all is_there) (flat_map-append ids_of_change (map view.pair ps) (map view.pair qs)) ∙ list_all-append is_there (flat_map ids_of_change (map view.pair ps)) (flat_map ids_of_change (map view.pair qs))

  one_there : (p : WrittenPair) → all_there (p ∷ []) ≡ there p
  one_there p = ap (list_all is_there) (append-nil (ids_of_change (view.pair p)))

  not_both : (a b c : Bool) → b ≡ false → (a && (b && c)) ≡ false
  not_both true b c e = rw e refl
  not_both false b c e = refl

  pub unknown : (ps : List WrittenPair) (i : ℕ) (p : WrittenPair) → slice_get ps i ≡ Some p → there p ≡ false → all_there ps ≡ false
  unknown ps i p at e =
      let whole = split_at ps i p (slice_get_within ps i p at) ∙ ap (λ q. take i ps ++ q ∷ drop (suc i) ps) (get_or_from_slice_get ps i p p at) in
      ap all_there whole ∙ all_there-append (take i ps) (p ∷ drop (suc i) ps) ∙ ap (λ b. all_there (take i ps) && b) (all_there-append (p ∷ []) (drop (suc i) ps)) ∙ not_both (all_there (take i ps)) (all_there (p ∷ [])) (all_there (drop (suc i) ps)) (one_there p ∙ e)

  -- one more pair, whose amoebots are there
  pub all_there_next : (ps : List WrittenPair) (i : ℕ) (p : WrittenPair) → slice_get ps i ≡ Some p → all_there (take i ps) ≡ true → there p ≡ true → all_there (take (i + 1) ps) ≡ true
  all_there_next ps i p at before e =
      ap all_there (take_next ps i p at) ∙ all_there-append (take i ps) (p ∷ []) ∙ ap (λ b. b && all_there (p ∷ [])) before ∙ one_there p ∙ e

-- pairs, with one more
pub pairs_next : (ps : List WrittenPair) (i : ℕ) (p : WrittenPair) → slice_get ps i ≡ Some p
    → map view.pair (take (i + 1) ps) ≡ map view.pair (take i ps) ++ view.pair p ∷ []
pairs_next ps i p at = ap (map view.pair) (take_next ps i p at) ∙ map-append view.pair (take i ps) (p ∷ [])

-- a test that gave something was true, and gave that
pub gave_some : {X : Type 0} (b : Bool) (x y : X) (r : Option X) → r ≡ (if b then Some x else None) → r ≡ Some y → (b ≡ true) × (x ≡ y)
gave_some {X} true x y r e f = let h : Some x ≡ Some y = sym e ∙ f in (refl, ap (λ (o : Option X). unwrap_or o x) h)
gave_some {X} false x y r e f = let h : Some y ≡ None = sym f ∙ e in absurd cc

-- a test that gave none was false
pub gave_none : {X : Type 0} (b : Bool) (x : X) (r : Option X) → r ≡ (if b then Some x else None) → r ≡ None → b ≡ false
gave_none {X} true x r e f = let h : Some x ≡ None = sym e ∙ f in absurd cc
gave_none false x r e f = refl
