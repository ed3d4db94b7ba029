-- The configuration that has what is shown and no other amoebot.
use Rattle.std.proofs.Common.{◌≡◌, ◌≢◌, ◌<◌, ◌*◌, ℕ, zero, suc, List, [], ◌∷◌, get_or, filter, Bool, true, false, ap, sym, ◌∙◌, refl, subst, inl, inr, Option, Some, None, nat_eq}
use Rattle.std.specs.List.{filter_map}
use Rattle.std.proofs.lemmas.List.Elements.{All-filter}
use Rattle.std.proofs.lemmas.List.Kept.{IsStrictlyIncreasing-filter}
use Rattle.std.specs.Option.{option_map}
use Rattle.std.proofs.lemmas.Bool.{cases_Bool, both_ways, eqb-true, eq-eqb, false≢true}
use Rattle.std.proofs.lemmas.Option.{none-some}
use Rattle.std.specs.Prelude.{is_some}
use Rattle.tri_lattice.specs.declared.node.Node.{Node}
use Rattle.tri_lattice.specs.Extent.{index_of, is_in, node_at}
use Rattle.tri_lattice.proofs.Boxes.{node_at_index_of}
use Rattle.amoebot_state.specs.declared.bot.Bot.{Bot}
use Rattle.amoebot_state.specs.declared.cell.CellName.{CellName}
use Rattle.amoebot_state.specs.declared.cell.CellName.TheVariants as name
use Rattle.amoebot_state.specs.declared.cell.Cell.{Cell}
use Rattle.amoebot_state.specs.declared.cell.Cell.TheVariants as cell
use Rattle.amoebot_state.specs.Configs.{Config, IsValid, bot_at, is_wall, occupant, covers, value}
use Rattle.amoebot_state.specs.Zones.{Shown, is_number_among, shown_by, walls_among, shown, shown_cell, zone, zone_nodes, with_id, spread, shown_alone}
use Rattle.amoebot_state.specs.Pairs.{body_in, nodes_in}
use Rattle.amoebot_state.specs.Walls.{has_node, has_number}
use Rattle.amoebot_state.specs.Laws.{ShownAloneShowsTheSame, ShownAloneHoldsTheSame, ShownHasTheWalls}
use Rattle.amoebot_state.proofs.Options.{there_is}
use Rattle.amoebot_state.proofs.Members.{Has, here, later, has_cases, not_in_none, Has-filter, filter_has, Contains-from_Has, Has-from_Contains, filter_map-same}
use Rattle.amoebot_state.proofs.Walls.{same_truth, has_node-Has, Has-has_node, Has-has_number, number_is}
use Rattle.amoebot_state.proofs.Occupants.{occupant_at, occupant_none, nobody_covers, occupant_covers}
use Rattle.amoebot_state.proofs.Zones.{zone_is_determined, zone_is, own_in_zone, body_in_zone, spot_node}

with_id_same : (os : List (Option Bot)) (i : ℕ) (b : Bot) → get_or (with_id os i b) i None ≡ Some b
with_id_same [] zero b = refl
with_id_same [] (suc i) b = with_id_same [] i b
with_id_same (o ∷ os) zero b = refl
with_id_same (o ∷ os) (suc i) b = with_id_same os i b

with_id_other : (os : List (Option Bot)) (i j : ℕ) (b : Bot) → j ≢ i → get_or (with_id os i b) j None ≡ get_or os j None
with_id_other [] zero zero b ne = absurd (ne refl)
with_id_other [] zero (suc j) b ne = refl
with_id_other [] (suc i) zero b ne = refl
with_id_other [] (suc i) (suc j) b ne = with_id_other [] i j b (λ e. ne (ap suc e))
with_id_other (o ∷ os) zero zero b ne = absurd (ne refl)
with_id_other (o ∷ os) zero (suc j) b ne = refl
with_id_other (o ∷ os) (suc i) zero b ne = refl
with_id_other (o ∷ os) (suc i) (suc j) b ne = with_id_other os i j b (λ e. ne (ap suc e))

pub spread_at : (cells : List (CellName × Cell)) (j : ℕ) → get_or (spread cells) j None ≡ body_in cells j
spread_at [] j = refl
spread_at ((name.Spot v, x) ∷ cells) j = spread_at cells j
spread_at ((name.Body i, cell.Spot o) ∷ cells) j = spread_at cells j
spread_at ((name.Body i, cell.Body b) ∷ cells) j = elim (cases_Bool (nat_eq i j)) [
  | inl t ↦ rw t (ap (λ k. get_or (with_id (spread cells) i b) k None) (sym (eqb-true i j t)) ∙ with_id_same (spread cells) i b)
  | inr f ↦ rw f (with_id_other (spread cells) i j b (λ e. both_ways _ f (eq-eqb i j (sym e))) ∙ spread_at cells j)
]

-- where the names have the body, the cells hold the amoebot that the configuration has
pub body_shown : (c : Config) (names : List CellName) (j : ℕ) → Has (name.Body j) names → body_in (filter_map (shown_cell c) names) j ≡ bot_at c j
body_shown c [] j has = absurd (not_in_none has)
body_shown c (name.Spot v ∷ names) j has = elim (has_cases has) [ inl e ↦ absurd (cc) | inr r ↦ body_shown c names j r ]
body_shown c (name.Body i ∷ names) j has = elim (bot_at c i) as (λ o. bot_at c i ≡ o → body_in (filter_map (shown_cell c) (name.Body i ∷ names)) j ≡ bot_at c j) [
  | None ↦ λ e. rw e (elim (has_cases has) [
    | inl same ↦ let k : j ≡ i = cc in absent c names j (ap (bot_at c) k ∙ e) ∙ sym (ap (bot_at c) k ∙ e)
    | inr r ↦ body_shown c names j r
  ])
  | Some b ↦ λ e. rw e (elim (cases_Bool (nat_eq i j)) [
    | inl t ↦ rw t (sym e ∙ ap (bot_at c) (eqb-true i j t))
    | inr f ↦ rw f (elim (has_cases has) [
      | inl same ↦ let k : j ≡ i = cc in absurd (both_ways _ f (eq-eqb i j (sym k)))
      | inr r ↦ body_shown c names j r
    ])
  ])
] refl
  where
    absent : (c : Config) (names : List CellName) (j : ℕ) → bot_at c j ≡ None → body_in (filter_map (shown_cell c) names) j ≡ None
    absent c [] j e = refl
    absent c (name.Spot v ∷ names) j e = absent c names j e
    absent c (name.Body i ∷ names) j e = elim (bot_at c i) as (λ o. bot_at c i ≡ o → body_in (filter_map (shown_cell c) (name.Body i ∷ names)) j ≡ None) [
      | None ↦ λ s. rw s (absent c names j e)
      | Some b ↦ λ s. rw s (elim (cases_Bool (nat_eq i j)) [
        | inl t ↦ absurd (none-some b (sym (ap (bot_at c) (eqb-true i j t) ∙ e) ∙ s))
        | inr f ↦ rw f (absent c names j e)
      ])
    ] refl

-- and in any case that one or none
body_of : (c : Config) (names : List CellName) (j : ℕ) (b : Bot) → body_in (filter_map (shown_cell c) names) j ≡ Some b → (bot_at c j ≡ Some b) × Has (name.Body j) names
body_of c [] j b = λ e. absurd (none-some b e)
body_of c (name.Spot v ∷ names) j b = λ e. let rest = body_of c names j b e in (rest.0, later rest.1)
body_of c (name.Body i ∷ names) j b = elim (bot_at c i) as (λ o. bot_at c i ≡ o → body_in (filter_map (shown_cell c) (name.Body i ∷ names)) j ≡ Some b → (bot_at c j ≡ Some b) × Has (name.Body j) (name.Body i ∷ names)) [
  | None ↦ λ s. rw s (λ e. let rest = body_of c names j b e in (rest.0, later rest.1))
  | Some a ↦ λ s. rw s (elim (cases_Bool (nat_eq i j)) [
    | inl t ↦ rw t (λ e. (ap (bot_at c) (sym (eqb-true i j t)) ∙ s ∙ e, subst (λ k. Has (name.Body j) (name.Body k ∷ names)) (sym (eqb-true i j t)) here))
    | inr f ↦ rw f (λ e. let rest = body_of c names j b e in (rest.0, later rest.1))
  ])
] refl

-- an amoebot of the configuration is there in what is shown alone exactly where its body is in the zone
pub alone_has : (c : Config) (i j : ℕ) → Has (name.Body j) (zone c i) → bot_at (shown_alone (shown c i)) j ≡ bot_at c j
alone_has c i j has = spread_at (filter_map (shown_cell c) (zone c i)) j ∙ body_shown c (zone c i) j has

pub alone_only : (c : Config) (i j : ℕ) (b : Bot) → bot_at (shown_alone (shown c i)) j ≡ Some b → (bot_at c j ≡ Some b) × Has (name.Body j) (zone c i)
alone_only c i j b e = body_of c (zone c i) j b (sym (spread_at (filter_map (shown_cell c) (zone c i)) j) ∙ e)

-- what covers a node in what is shown alone covers it in the configuration
alone_covers : (c : Config) (i j : ℕ) (v : Node) → covers (bot_at (shown_alone (shown c i)) j) v ≡ true → covers (bot_at c j) v ≡ true
alone_covers c i j v t = elim (bot_at (shown_alone (shown c i)) j) as (λ o. bot_at (shown_alone (shown c i)) j ≡ o → covers (bot_at c j) v ≡ true) [
  | None ↦ λ e. absurd (false≢true (sym (ap (λ o. covers o v) e) ∙ t))
  | Some b ↦ λ e. ap (λ o. covers o v) ((alone_only c i j b e).0 ∙ sym e) ∙ t
] refl

-- the nodes among the cells that are shown are those of the zone
shown_node : (c : Config) (names : List CellName) (v : Node) → Has v (nodes_in (filter_map (shown_cell c) names)) → Has (name.Spot v) names
shown_node c [] v = λ has. absurd (not_in_none has)
shown_node c (name.Spot u ∷ names) v = λ has. elim (has_cases has) [
  | inl e ↦ subst (λ w. Has (name.Spot w) (name.Spot u ∷ names)) (sym e) here
  | inr h ↦ later (shown_node c names v h)
]
shown_node c (name.Body i ∷ names) v = elim (bot_at c i) as (λ o. bot_at c i ≡ o → Has v (nodes_in (filter_map (shown_cell c) (name.Body i ∷ names))) → Has (name.Spot v) (name.Body i ∷ names)) [
  | None ↦ λ e. rw e (λ has. later (shown_node c names v has))
  | Some b ↦ λ e. rw e (λ has. later (shown_node c names v has))
] refl

node_shown : (c : Config) (names : List CellName) (v : Node) → Has (name.Spot v) names → Has v (nodes_in (filter_map (shown_cell c) names))
node_shown c [] v = λ has. absurd (not_in_none has)
node_shown c (name.Spot u ∷ names) v = λ has. elim (has_cases has) [
  | inl e ↦ let same : v ≡ u = cc in subst (λ w. Has w (u ∷ nodes_in (filter_map (shown_cell c) names))) (sym same) here
  | inr h ↦ later (node_shown c names v h)
]
node_shown c (name.Body i ∷ names) v = elim (bot_at c i) as (λ o. bot_at c i ≡ o → Has (name.Spot v) (name.Body i ∷ names) → Has v (nodes_in (filter_map (shown_cell c) (name.Body i ∷ names)))) [
  | None ↦ λ e. rw e (λ has. elim (has_cases has) [ inl same ↦ absurd (cc) | inr h ↦ node_shown c names v h ])
  | Some b ↦ λ e. rw e (λ has. elim (has_cases has) [ inl same ↦ absurd (cc) | inr h ↦ node_shown c names v h ])
] refl

-- a wall of what is shown alone is one of the configuration, on a node of the zone
alone_wall_only : (c : Config) (i : ℕ) (v : Node) → is_wall (shown_alone (shown c i)) v ≡ true → (is_wall c v ≡ true) × Has (name.Spot v) (zone c i)
unfolding is_number_among
alone_wall_only c i v t =
    let nodes = nodes_in (filter_map (shown_cell c) (zone c i)) in
    let (k, at, has) = number_is (shown c i).walls (index_of c.area v) t in
    let (listed, among) = filter_has (λ k. has_node nodes (node_at c.area k)) c.walls has in
    let same = (node_at_index_of c.area v k at).1 in (
      ap (has_number c.walls) at ∙ Has-has_number c.walls k listed,
      shown_node c (zone c i) v (has_node-Has nodes v (ap (has_node nodes) (sym same) ∙ among)),
    )

-- and the other way round
alone_wall_there : (c : Config) (i : ℕ) (v : Node) → is_wall c v ≡ true → Has (name.Spot v) (zone c i) → is_wall (shown_alone (shown c i)) v ≡ true
unfolding is_number_among
alone_wall_there c i v t has =
    let nodes = nodes_in (filter_map (shown_cell c) (zone c i)) in
    let (k, at, listed) = number_is c.walls (index_of c.area v) t in
    let same = (node_at_index_of c.area v k at).1 in
    let among : has_node nodes (node_at c.area k) ≡ true = ap (has_node nodes) same ∙ Has-has_node nodes v (node_shown c (zone c i) v has) in
    ap (has_number (shown c i).walls) at ∙ Has-has_number (shown c i).walls k (Has-filter (λ k. has_node nodes (node_at c.area k)) c.walls listed among)

pub shown_has_the_walls : ShownHasTheWalls
shown_has_the_walls c i v = (
  (λ t. let only = alone_wall_only c i v t in (only.0, Contains-from_Has (zone c i) only.1)),
  (λ both. alone_wall_there c i v both.0 (Has-from_Contains (zone c i) both.1)),
)

-- a node of the zone is a wall in both or in neither
pub alone_wall : (c : Config) (i : ℕ) (v : Node) → Has (name.Spot v) (zone c i) → is_wall (shown_alone (shown c i)) v ≡ is_wall c v
alone_wall c i v has = same_truth _ _ (λ t. (alone_wall_only c i v t).0) (λ t. alone_wall_there c i v t has)

-- what is no wall of the configuration is none of what is shown alone
pub alone_open : (c : Config) (i : ℕ) (v : Node) → is_wall c v ≡ false → is_wall (shown_alone (shown c i)) v ≡ false
alone_open c i v none = elim (cases_Bool (is_wall (shown_alone (shown c i)) v)) [
  | inl t ↦ absurd (both_ways _ none (alone_wall_only c i v t).0)
  | inr f ↦ f
]

-- a wall lies in the area
pub wall_inside : (c : Config) (v : Node) → is_wall c v ≡ true → is_in c.area v ≡ true
wall_inside c v t = let at = number_is c.walls (index_of c.area v) t in ap is_some at.1

pub no_wall_outside : (c : Config) (v : Node) → is_in c.area v ≡ false → is_wall c v ≡ false
no_wall_outside c v outside = elim (cases_Bool (is_wall c v)) [
  | inl t ↦ absurd (both_ways _ outside (wall_inside c v t))
  | inr f ↦ f
]

pub alone_valid : (c : Config) (i : ℕ) → IsValid c → IsValid (shown_alone (shown c i))
alone_valid c i valid = record {
  area = valid.area;
  eight = valid.eight;
  rising = IsStrictlyIncreasing-filter _ c.walls valid.rising;
  walled = All-filter _ (λ k. k < c.area.w * c.area.h) c.walls valid.walled;
  each = λ j b e.
      let fits = valid.each j b (alone_only c i j b e).0 in
      record {
        head = fits.head;
        tail = fits.tail;
        head_open = alone_open c i b.head fits.head_open;
        tail_open = alone_open c i b.tail fits.tail_open;
        close = fits.close;
        rot = fits.rot;
        values = fits.values;
        eight = fits.eight;
      };
  apart = λ j k v s t. valid.apart j k v (alone_covers c i j v s) (alone_covers c i k v t);
}

-- the amoebot itself is there
pub alone_own : (c : Config) (i : ℕ) (b : Bot) → bot_at c i ≡ Some b → bot_at (shown_alone (shown c i)) i ≡ Some b
alone_own c i b e = alone_has c i i (own_in_zone c i b e) ∙ e

-- each node of the zone has the same occupant
pub alone_occupant : (c : Config) (i : ℕ) (b : Bot) (v : Node) → IsValid c → bot_at c i ≡ Some b → Has v (zone_nodes c.area b) → occupant (shown_alone (shown c i)) v ≡ occupant c v
alone_occupant c i b v valid e has = elim (occupant c v) as (λ o. occupant c v ≡ o → occupant (shown_alone (shown c i)) v ≡ o) [
  | None ↦ λ o. occupant_none (shown_alone (shown c i)) v (λ j. elim (cases_Bool (covers (bot_at (shown_alone (shown c i)) j) v)) [
    | inl t ↦ absurd (both_ways _ (nobody_covers c v o j) (alone_covers c i j v t))
    | inr f ↦ f
  ])
  | Some j ↦ λ o. occupant_at (shown_alone (shown c i)) (alone_valid c i valid) j v (ap (λ q. covers q v) (alone_has c i j (body_in_zone c i b v j e has o)) ∙ occupant_covers c v j o)
] refl

alone_zone : (c : Config) (i : ℕ) (b : Bot) → IsValid c → bot_at c i ≡ Some b → zone (shown_alone (shown c i)) i ≡ zone c i
alone_zone c i b valid e =
    let vs = zone_nodes c.area b in
    zone_is (shown_alone (shown c i)) i b (alone_own c i b e)
    ∙ zone_is_determined c.area i b (occupant (shown_alone (shown c i))) (occupant c) (λ v has. alone_occupant c i b v valid e (Has-from_Contains vs has))
    ∙ sym (zone_is c i b e)

-- a cell of the zone holds the same
pub alone_value : (c : Config) (i : ℕ) (b : Bot) → IsValid c → bot_at c i ≡ Some b → (n : CellName) → Has n (zone c i) → value (shown_alone (shown c i)) n ≡ value c n
alone_value c i b valid e (name.Body j) has = ap (option_map cell.Body) (alone_has c i j has)
alone_value c i b valid e (name.Spot v) has = ap (λ o. Some (cell.Spot o)) (alone_occupant c i b v valid e (spot_node c i b v e has))

filter_twice : {A : Type 0} (p : A → Bool) (xs : List A) → filter p (filter p xs) ≡ filter p xs
filter_twice p [] = refl
filter_twice p (x ∷ xs) = elim (cases_Bool (p x)) [
  | inl t ↦ rw t (rw t (ap (λ ys. x ∷ ys) (filter_twice p xs)))
  | inr f ↦ rw f (filter_twice p xs)
]

-- what is shown alone shows the same
pub alone_shows : (c : Config) (i : ℕ) (b : Bot) → IsValid c → bot_at c i ≡ Some b → shown (shown_alone (shown c i)) i ≡ shown c i
alone_shows c i b valid e =
    let part = shown_alone (shown c i) in
    let cells = filter_map (shown_cell c) (zone c i) in
    let same : filter_map (shown_cell part) (zone part i) ≡ cells = ap (filter_map (shown_cell part)) (alone_zone c i b valid e) ∙ filter_map-same (shown_cell part) (shown_cell c) (zone c i) (λ n has. ap (option_map (λ x. (n, x))) (alone_value c i b valid e n has)) in
    ap (λ ps. shown_by c.area c.maxes i (walls_among part ps) ps) same
    ∙ ap (λ ws. shown_by c.area c.maxes i ws cells) (filter_twice (is_number_among c.area cells) c.walls)

pub shown_alone_shows_the_same : ShownAloneShowsTheSame
shown_alone_shows_the_same s (c, valid, has, e) =
    let b = there_is (bot_at c s.bot) has in
    subst (λ (t : Shown). shown (shown_alone t) s.bot ≡ t) e (alone_shows c s.bot b.0 valid b.1)

pub shown_alone_holds_the_same : ShownAloneHoldsTheSame
shown_alone_holds_the_same c i n valid has listed =
    let b = there_is (bot_at c i) has in
    alone_value c i b.0 valid b.1 n (Has-from_Contains (zone c i) listed)
