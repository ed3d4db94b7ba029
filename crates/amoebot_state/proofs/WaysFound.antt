-- What is behind a pair of an end and a direction, by where the pair leads.
use Rattle.std.proofs.Common.{◌≡◌, ◌<◌, ◌≤◌, ◌+◌, ℕ, zero, suc, List, length, map, get_or, Bool, true, false, ap, sym, ◌∙◌, refl, subst, inl, inr, arith, Option, Some}
use Rattle.std.specs.Prelude.{slice_get, if◌then◌else◌}
use Rattle.std.specs.List.{filter_map}
use Rattle.std.specs.Option.{option_map}
use Rattle.std.proofs.lemmas.Bool.{cases_Bool, cases_lt, le-ltb}
use Rattle.std.proofs.lemmas.Option.{none-some, same_Some, slice_get-map, slice_get-get_or, slice_get_past}
use Rattle.tri_lattice.specs.declared.node.Node.{Node}
use Rattle.tri_lattice.specs.Extent.{is_in}
use Rattle.amoebot_state.specs.declared.bot.Bot.{Bot}
use Rattle.amoebot_state.specs.declared.bot.End.{End}
use Rattle.amoebot_state.specs.declared.bot.End.TheVariants.{Head, Tail}
use Rattle.amoebot_state.specs.declared.bot.Port.{Port}
use Rattle.amoebot_state.specs.declared.cell.CellName.{CellName}
use Rattle.amoebot_state.specs.declared.cell.CellName.TheVariants as name
use Rattle.amoebot_state.specs.declared.cell.Cell.{Cell}
use Rattle.amoebot_state.specs.declared.cell.Cell.TheVariants as cell
use Rattle.amoebot_state.specs.declared.found.Behind.TheVariants as there
use Rattle.amoebot_state.specs.declared.way.Way.{Way}
use Rattle.amoebot_state.specs.declared.way.Way.TheVariants as way
use Rattle.amoebot_state.specs.Ports.{all_ports, behind, is_port, port, pair_place}
use Rattle.amoebot_state.specs.Configs.{Config, IsValid, bot_at, bot_of, is_wall, occupant}
use Rattle.amoebot_state.specs.Around.{on_node, behind_pair}
use Rattle.amoebot_state.specs.Ways.{IsFound, node_place, way_among}
use Rattle.amoebot_state.specs.Zones.{Shown, shown, shown_alone, zone, zone_nodes, others}
use Rattle.amoebot_state.proofs.BehindPorts.{behind_in_nodes}
use Rattle.amoebot_state.proofs.Fronts.{slice_get_left}
use Rattle.amoebot_state.proofs.Known.{shown_at}
use Rattle.amoebot_state.proofs.Members.{Has}
use Rattle.amoebot_state.proofs.Occupants.{outside_empty}
use Rattle.amoebot_state.proofs.Options.{there_is, none_if}
use Rattle.amoebot_state.proofs.ShownAlone.{alone_own, alone_occupant}
use Rattle.amoebot_state.proofs.Shows.{shown_valid}
use Rattle.amoebot_state.proofs.Ways.{node_at}
use Rattle.amoebot_state.proofs.Zones.{zone_is}

-- the place of a pair has what belongs to the pair
at_head : {A : Type 0} (f : Port → A) (d : ℕ) → d < 6 → slice_get (map f all_ports) d ≡ Some (f (port Head d))
at_head f zero lt = refl
at_head f (suc zero) lt = refl
at_head f (suc (suc zero)) lt = refl
at_head f (suc (suc (suc zero))) lt = refl
at_head f (suc (suc (suc (suc zero)))) lt = refl
at_head f (suc (suc (suc (suc (suc zero))))) lt = refl
at_head f (suc (suc (suc (suc (suc (suc d)))))) lt = absurd (omega (arith, lt))

at_tail : {A : Type 0} (f : Port → A) (d : ℕ) → d < 6 → slice_get (map f all_ports) (6 + d) ≡ Some (f (port Tail d))
at_tail f zero lt = refl
at_tail f (suc zero) lt = refl
at_tail f (suc (suc zero)) lt = refl
at_tail f (suc (suc (suc zero))) lt = refl
at_tail f (suc (suc (suc (suc zero)))) lt = refl
at_tail f (suc (suc (suc (suc (suc zero))))) lt = refl
at_tail f (suc (suc (suc (suc (suc (suc d)))))) lt = absurd (omega (arith, lt))

by_end : {A : Type 0} (f : Port → A) (e : End) (d : ℕ) → d < 6 → slice_get (map f all_ports) (pair_place (port e d)) ≡ Some (f (port e d))
by_end f Head d lt = at_head f d lt
by_end f Tail d lt = at_tail f d lt

pub at_pair : {A : Type 0} (f : Port → A) (p : Port) → p.dir < 6 → slice_get (map f all_ports) (pair_place p) ≡ Some (f p)
at_pair f p lt = by_end f p.end p.dir lt

-- a pair of another direction is no port
pub no_pair : (c : Config) (i : ℕ) (p : Port) → 6 ≤ p.dir → behind_pair c i p ≡ there.NoPort
no_pair c i p ge = rw (le-ltb p.dir 6 ge) refl

-- the cells that are shown have a node at its place behind the body, with its occupant
node_cell : (c : Config) (i : ℕ) (b : Bot) (v : Node) → IsValid c → bot_at c i ≡ Some b → Has v (zone_nodes c.area b)
    → slice_get (shown c i).cells (suc (node_place (zone_nodes c.area b) v)) ≡ Some (name.Spot v, cell.Spot (occupant (shown_alone (shown c i)) v))
node_cell c i b v valid at has =
    let vs = zone_nodes c.area b in
    let k = node_place vs v in
    let found = node_at vs v has in
    let listed : slice_get (map name.Spot vs) k ≡ Some (name.Spot v) = slice_get-map name.Spot vs k ∙ ap (option_map name.Spot) found in
    let lt : k < length (map name.Spot vs) = elim (cases_lt k (length (map name.Spot vs))) [
      | inl less ↦ less
      | inr ge ↦ absurd (none-some _ (sym (slice_get_past (map name.Spot vs) k ge) ∙ listed))
    ] in
    let named : slice_get (zone c i) (suc k) ≡ Some (name.Spot v) = ap (λ ns. slice_get ns (suc k)) (zone_is c i b at) ∙ slice_get_left (map name.Spot vs) (map name.Body (others (occupant c) i vs)) k lt ∙ listed in
    let (x, holds, is) = shown_at c i (suc k) (name.Spot v) named in
    is ∙ ap (λ y. Some (name.Spot v, y)) (sym (same_Some (cell.Spot (occupant c v)) x holds)) ∙ ap (λ o. Some (name.Spot v, cell.Spot o)) (sym (alone_occupant c i b v valid at has))

-- so what is found has it
pub node_found : (s : Shown) (own : Bot) (ways : List Way) (v : Node) → IsFound s own ways → Has v (zone_nodes s.area own)
    → slice_get s.cells (suc (node_place (zone_nodes s.area own) v)) ≡ Some (name.Spot v, cell.Spot (occupant (shown_alone s) v))
node_found s own ways v is has =
    let c = is.shown.0 in
    let (b, at) = there_is (bot_at c s.bot) is.shown.2 in
    let P : Shown → Type 0 = λ t. bot_at (shown_alone t) s.bot ≡ Some own → Has v (zone_nodes t.area own) → slice_get t.cells (suc (node_place (zone_nodes t.area own) v)) ≡ Some (name.Spot v, cell.Spot (occupant (shown_alone t) v)) in
    subst P is.shown.3 (λ mine among.
    let same : b ≡ own = same_Some b own (sym (alone_own c s.bot b at) ∙ mine) in
    node_cell c s.bot own v is.shown.1 (at ∙ ap Some same) among) is.owner has

-- what a way tells of who is behind its pair
pub record Leads (s : Shown) (p : Port) (w : Way) : Type 0 where
  pub no_port : w ≡ way.NoPort → behind_pair (shown_alone s) s.bot p ≡ there.NoPort
  pub outside : w ≡ way.Outside → behind_pair (shown_alone s) s.bot p ≡ there.Edge
  pub node : (k : ℕ) → w ≡ way.To k → (v : Node) × (slice_get s.cells (suc k) ≡ Some (name.Spot v, cell.Spot (occupant (shown_alone s) v))) × (behind_pair (shown_alone s) s.bot p ≡ on_node true (is_wall (shown_alone s) v) (occupant (shown_alone s) v))

leads_by : (s : Shown) (own : Bot) (ways : List Way) (p : Port) (w : Way) → IsFound s own ways → bot_of (shown_alone s) s.bot ≡ own → way_among s.area own (zone_nodes s.area own) p ≡ w → Leads s p w
leads_by s own ways p w is mine e = elim (cases_Bool (is_port own p)) [
  | inl t ↦ elim (cases_Bool (is_in s.area (behind own p))) [
    | inl u ↦
        let v = behind own p in
        let to : way.To (node_place (zone_nodes s.area own) v) ≡ w = sym (way_by true true t u) ∙ e in
        record {
          no_port = λ f. let z = to ∙ f in absurd (cc);
          outside = λ f. let z = to ∙ f in absurd (cc);
          node = λ k f.
              let same : node_place (zone_nodes s.area own) v ≡ k = let z = to ∙ f in cc in
              (v, ap (λ n. slice_get s.cells (suc n)) (sym same) ∙ node_found s own ways v is (behind_in_nodes s.area own p t u), pair_by true true t u);
        }
    | inr f ↦
        let to : way.Outside ≡ w = sym (way_by true false t f) ∙ e in
        record {
          no_port = λ g. let z = to ∙ g in absurd (cc);
          outside = λ _. pair_by true false t f ∙ ap (on_node false (is_wall (shown_alone s) (behind own p))) (sym (outside_empty (shown_alone s) (shown_valid s is.shown) (behind own p) (none_if _ f)));
          node = λ k g. let z = to ∙ g in absurd (cc);
        }
  ]
  | inr f ↦
      let to : way.NoPort ≡ w = sym (ap (λ t. if t then (if is_in s.area (behind own p) then way.To (node_place (zone_nodes s.area own) (behind own p)) else way.Outside) else way.NoPort) f) ∙ e in
      record {
        no_port = λ _. ap (λ (b : Bot). if is_port b p then on_node (is_in s.area (behind b p)) (is_wall (shown_alone s) (behind b p)) (occupant (shown_alone s) (behind b p)) else there.NoPort) mine ∙ ap (λ t. if t then on_node (is_in s.area (behind own p)) (is_wall (shown_alone s) (behind own p)) (occupant (shown_alone s) (behind own p)) else there.NoPort) f;
        outside = λ g. let z = to ∙ g in absurd (cc);
        node = λ k g. let z = to ∙ g in absurd (cc);
      }
]
  where
    way_by : (holds inside : Bool) → is_port own p ≡ holds → is_in s.area (behind own p) ≡ inside → way_among s.area own (zone_nodes s.area own) p ≡ (if holds then (if inside then way.To (node_place (zone_nodes s.area own) (behind own p)) else way.Outside) else way.NoPort)
    way_by holds inside t u = λ j. if t j then (if u j then way.To (node_place (zone_nodes s.area own) (behind own p)) else way.Outside) else way.NoPort

    pair_by : (holds inside : Bool) → is_port own p ≡ holds → is_in s.area (behind own p) ≡ inside → behind_pair (shown_alone s) s.bot p ≡ (if holds then on_node inside (is_wall (shown_alone s) (behind own p)) (occupant (shown_alone s) (behind own p)) else there.NoPort)
    pair_by holds inside t u =
        ap (λ (b : Bot). if is_port b p then on_node (is_in s.area (behind b p)) (is_wall (shown_alone s) (behind b p)) (occupant (shown_alone s) (behind b p)) else there.NoPort) mine
        ∙ (λ j. if t j then on_node (u j) (is_wall (shown_alone s) (behind own p)) (occupant (shown_alone s) (behind own p)) else there.NoPort)

leads : (s : Shown) (own : Bot) (ways : List Way) (p : Port) (w : Way) → IsFound s own ways → p.dir < 6 → slice_get ways (pair_place p) ≡ Some w → Leads s p w
leads s own ways p w is lt at =
    leads_by s own ways p w is (own_is (bot_at (shown_alone s) s.bot) is.owner) (same_Some _ w (sym (at_pair (way_among s.area own (zone_nodes s.area own)) p lt) ∙ ap (λ ws. slice_get ws (pair_place p)) (sym is.ways) ∙ at))
  where
    own_is : (o : Option Bot) → o ≡ Some own → Rattle.std.specs.Prelude.unwrap_or o Rattle.amoebot_state.specs.Configs.blank ≡ own
    own_is o e = ap (λ q. Rattle.std.specs.Prelude.unwrap_or q Rattle.amoebot_state.specs.Configs.blank) e

-- the same of what the code finds at the place of the pair
pub leads_at : (s t : Shown) (own : Bot) (ws : List Way) (p : Port) (k : ℕ) (d w : Way) → IsFound s own ws → s ≡ t → p.dir < 6 → k ≡ pair_place p → get_or ws k d ≡ w → Leads t p w
leads_at s t own ws p k d w is same lt place at =
    let all = at_pair (way_among s.area own (zone_nodes s.area own)) p lt in
    let inside : slice_get ws k ≡ Some (way_among s.area own (zone_nodes s.area own) p) = ap (slice_get ws) place ∙ ap (λ vs. slice_get vs (pair_place p)) is.ways ∙ all in
    let short : k < length ws = elim (cases_lt k (length ws)) [
      | inl less ↦ less
      | inr ge ↦ absurd (none-some _ (sym (slice_get_past ws k ge) ∙ inside))
    ] in
    subst (λ u. Leads u p w) same (leads s own ws p w is lt (ap (slice_get ws) (sym place) ∙ slice_get-get_or ws k d short ∙ ap Some at))

-- the cell at that place is one of those that are shown
pub cell_below : (s : Shown) (k : ℕ) (x : CellName × Cell) → slice_get s.cells k ≡ Some x → k < length s.cells
cell_below s k x e = elim (cases_lt k (length s.cells)) [
  | inl less ↦ less
  | inr ge ↦ absurd (none-some x (sym (slice_get_past s.cells k ge) ∙ e))
]
