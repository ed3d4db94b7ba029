-- Lists that have no element twice.
use Rattle.std.proofs.Common.{◌≡◌, ◌≢◌, ℕ, List, [], ◌∷◌, ◌++◌, map, Bool, true, false, not, ap, sym, ◌∙◌, refl, subst, inl, inr, arith, Option, Some, None, filter, nat_eq}
use Rattle.std.specs.List.{AllPairs}
use Rattle.std.proofs.lemmas.Bool.{both_ways, eq-eqb}
use Rattle.std.proofs.lemmas.List.Kept.{AllPairs-cons}
use Rattle.tri_lattice.specs.declared.node.Node.{Node}
use Rattle.tri_lattice.specs.Extent.{Extent}
use Rattle.tri_lattice.specs.Lattice.{node_eq}
use Rattle.tri_lattice.proofs.Nodes.{node_eq_same}
use Rattle.amoebot_state.specs.declared.bot.Bot.{Bot}
use Rattle.amoebot_state.specs.declared.cell.CellName.TheVariants as name
use Rattle.amoebot_state.specs.Configs.{Config, bot_at, occupant}
use Rattle.amoebot_state.specs.Zones.{distinct, zone_nodes, others, zone_of, zone_at, zone}
use Rattle.amoebot_state.specs.Laws.{ZoneListsEachCellOnce}
use Rattle.amoebot_state.proofs.Members.{Has, same_first, same_rest, here, later, map_has, filter_has, Has-append_cases, All-from_Has}
use Rattle.amoebot_state.proofs.Zones.{others_occupy}

-- no element is an element of what follows it
pub data Once {A : Type 0} : List A → Type 0 where
  none : Once []
  more : {x : A} {xs : List A} → (Has x xs → ⊥) → Once xs → Once (x ∷ xs)

pub once_parts : {A : Type 0} {x : A} {xs : List A} → Once (x ∷ xs) → (Has x xs → ⊥) × Once xs
once_parts {A} {x} {xs} once = split once refl
  where
    split : {zs : List A} → Once zs → zs ≡ x ∷ xs → (Has x xs → ⊥) × Once xs
    split none e = cc
    split (more {x = y} {xs = ys} new rest) e = (λ has. new (subst (λ z. Has z ys) (sym (same_first e)) (subst (Has x) (sym (same_rest e)) has)), subst Once (same_rest e) rest)

AllPairs-from_Once : {A : Type 0} {xs : List A} → Once xs → AllPairs (λ x y. x ≢ y) xs
AllPairs-from_Once none = λ i j d before within. absurd (omega arith)
AllPairs-from_Once {A} (more {x = x} {xs = xs} new rest) = AllPairs-cons (λ x y. x ≢ y) x xs (All-from_Has (λ y. x ≢ y) xs (λ y has e. new (subst (λ z. Has z xs) (sym e) has))) (AllPairs-from_Once rest)

Once-filter : {A : Type 0} (p : A → Bool) {xs : List A} → Once xs → Once (filter p xs)
Once-filter p none = none
Once-filter {A} p (more {x = x} {xs = xs} new rest) = elim (p x) as (λ b. p x ≡ b → Once (filter p (x ∷ xs))) [
  | true ↦ λ t. rw t (more (λ has. new (filter_has p xs has).0) (Once-filter p rest))
  | false ↦ λ f. rw f (Once-filter p rest)
] refl

Once-map : {A B : Type 0} (f : A → B) → ((x y : A) → f x ≡ f y → x ≡ y) → {xs : List A} → Once xs → Once (map f xs)
Once-map f injective none = none
Once-map {A} f injective (more {x = x} {xs = xs} new rest) = more (λ has. let found = map_has f xs has in new (subst (λ y. Has y xs) (sym (injective x found.0 found.2)) found.1)) (Once-map f injective rest)

Once-append : {A : Type 0} {xs ys : List A} → Once xs → Once ys → ((x : A) → Has x xs → Has x ys → ⊥) → Once (xs ++ ys)
Once-append none ys apart = ys
Once-append {A} {xs} {ys} (more {x = x} {xs = rest} new once) other apart = more
    (λ has. elim (Has-append_cases rest has) [ inl h ↦ new h | inr h ↦ apart x here h ])
    (Once-append once other (λ y h. apart y (later h)))

-- the distinct elements of a list are each there once
pub Once-distinct : {A : Type 0} (eq : A → A → Bool) → ((x : A) → eq x x ≡ true) → (xs : List A) → Once (distinct eq xs)
Once-distinct eq same [] = none
Once-distinct eq same (x ∷ xs) = more (λ has. both_ways _ (ap not (same x)) (filter_has (λ y. not (eq x y)) (distinct eq xs) has).1) (Once-filter (λ y. not (eq x y)) (Once-distinct eq same xs))

pub same_spot : (u v : Node) → name.Spot u ≡ name.Spot v → u ≡ v
same_spot u v e = cc

pub same_body : (i j : ℕ) → name.Body i ≡ name.Body j → i ≡ j
same_body i j e = cc

pub spot_is_no_body : (v : Node) (i : ℕ) → name.Spot v ≡ name.Body i → ⊥
spot_is_no_body v i e = cc

zone_of_once : (on : Node → Option ℕ) (i : ℕ) (vs : List Node) → Once vs → Once (zone_of on i vs)
zone_of_once on i vs once = more
    (λ has. elim (Has-append_cases (map name.Spot vs) has) [
      | inl h ↦ let found = map_has name.Spot vs h in spot_is_no_body found.0 i (sym found.2)
      | inr h ↦
          let found = map_has name.Body (others on i vs) h in
          let by = others_occupy on i vs found.0 found.1 in
          by.3 (sym (same_body i found.0 found.2))
    ])
    (Once-append (Once-map name.Spot same_spot once) (Once-map name.Body same_body (Once-distinct nat_eq (λ j. eq-eqb j j refl) _)) (λ n spot body.
    let v = map_has name.Spot vs spot in
    let j = map_has name.Body (others on i vs) body in
    spot_is_no_body v.0 j.0 (sym v.2 ∙ j.2)))

zone_at_once : (a : Extent) (on : Node → Option ℕ) (i : ℕ) (o : Option Bot) → Once (zone_at a on i o)
zone_at_once a on i None = none
zone_at_once a on i (Some b) = zone_of_once on i (zone_nodes a b) (Once-distinct node_eq node_eq_same _)

pub zone_once : (c : Config) (i : ℕ) → Once (zone c i)
zone_once c i = zone_at_once c.area (occupant c) i (bot_at c i)

pub zone_lists_each_cell_once : ZoneListsEachCellOnce
zone_lists_each_cell_once c i = AllPairs-from_Once (zone_once c i)
