-- What a meter does with an entry. No public clause cites these.
use Rattle.std.specs.Prelude.{◌≡◌, ℕ, ◌+◌, ◌<◌, List, [], ◌∷◌, Bool, if◌then◌else◌, map, length, slice_set, nat_eq, IsSome}
use Rattle.std.specs.List.{fold, filter_map, flat_map, range_with_len}
use Rattle.tri_lattice.specs.declared.node.Node.{Node}
use Rattle.tri_lattice.specs.Lattice.{ring, IsNear, node_eq}
use Rattle.amoebot_state.specs.declared.cell.CellName.{CellName}
use Rattle.amoebot_state.specs.declared.cell.CellName.TheVariants as name
use Rattle.amoebot_state.specs.declared.verdict.Change.{Change}
use Rattle.amoebot_state.specs.declared.verdict.Verdict.{Verdict}
use Rattle.amoebot_state.specs.declared.verdict.Verdict.TheVariants as verdict
use Rattle.amoebot_state.specs.Pairs.{CellChange, Triples, plain_patch}
use Rattle.amoebot_state.specs.Configs.{Config, IsValid, bot_at, bot_of, occupant}
use Rattle.amoebot_state.specs.Zones.{Shown, shown}
use Rattle.amoebot_state.specs.Patches.{IsPatched}
use Rattle.amoebot_state.specs.Storage.{with_new}
use Rattle.round_meter.specs.declared.standing.Standing.{Standing}
use Rattle.round_meter.specs.Rounds.{enabled_in}
use Rattle.round_meter.specs.Meters.{Metered, standing_of, this_round}
use Rattle.round_meter.specs.Tallies.{Tallied, metered, with_round_ended}

-- the cells that a patch changes
abbrev pub cells_among : Triples → List CellName
cells_among patch = map (λ (t : CellChange). t.0) patch

-- a node and those round it
abbrev pub closed_ring : Node → List Node
closed_ring v = v ∷ ring v

-- the nodes of a cell: its node, or the head and the tail of its amoebot
abbrev pub nodes_of_cell : Config → CellName → List Node
nodes_of_cell c (name.Spot v) = v ∷ []
nodes_of_cell c (name.Body i) = (bot_of c i).head ∷ (bot_of c i).tail ∷ []

-- the amoebots on these nodes, and those on and round them
abbrev pub ids_on : Config → List Node → List ℕ
ids_on c vs = filter_map (occupant c) vs

abbrev pub ids_round : Config → List Node → List ℕ
ids_round c vs = flat_map (λ v. ids_on c (closed_ring v)) vs

-- the nodes of these cells, each once
abbrev pub nodes_asked : Config → List CellName → List Node
nodes_asked c cells = fold (with_new node_eq) [] (flat_map (nodes_of_cell c) cells)

-- the amoebots that are asked again once these cells have changed:
-- in the configuration before the change those on and round the cells' nodes, each once
abbrev pub ids_asked : Config → List CellName → List ℕ
ids_asked c cells = fold (with_new nat_eq) [] (ids_round c (nodes_asked c cells))

-- a cell whose nodes can be found: a node whose neighbours have coordinates,
-- or the body of an amoebot
abbrev pub IsInReach : Config → CellName → Type 0
IsInReach c (name.Spot v) = IsNear v
IsInReach c (name.Body i) = i < length c.bots

-- how an amoebot stands that was settled in no round
abbrev pub fresh_standing : Bool → Standing
fresh_standing now = record { enabled = now; settled_in = 0 }

-- how an amoebot stands at the start of a run
abbrev pub first_standing : (Shown → Verdict) → Config → ℕ → Standing
first_standing f c b = fresh_standing (enabled_in f c b)

-- how so many amoebots do
abbrev pub first_standings : (Shown → Verdict) → Config → ℕ → List Standing
first_standings f c n = map (first_standing f c) (range_with_len 0 n)

-- how all do
abbrev pub first_tallied : (Shown → Verdict) → Config → Tallied
first_tallied f c = record { standings = first_standings f c (length c.bots); rounds = 0 }

-- a meter at the start of a run
abbrev pub first_metered : (Shown → Verdict) → Config → Metered
first_metered f c = metered c (first_tallied f c) 0

-- how an amoebot stands whose entry this is
abbrev pub after_entry : ℕ → Standing → Standing
after_entry round s = record s { settled_in = round }

-- the standings once it was entered
abbrev pub standings_after_entry : ℕ → List Standing → ℕ → List Standing
standings_after_entry round standings b =
    slice_set standings b (after_entry round (standing_of standings b))

-- How an amoebot stands that was asked again, and is enabled now or is not.
-- Where it was not enabled before, that has settled it in this round.
abbrev pub after_asking : ℕ → Bool → Standing → Standing
after_asking round now s =
    record { enabled = now; settled_in = if s.enabled then s.settled_in else round }

-- the standings once this was noted
abbrev pub standings_after_note : ℕ → List Standing → ℕ → Bool → List Standing
standings_after_note round standings b now =
    slice_set standings b (after_asking round now (standing_of standings b))

-- the standings once an amoebot was asked again
abbrev pub asked_again : (Shown → Verdict) → Config → ℕ → List Standing → ℕ → List Standing
asked_again f world round standings b = standings_after_note round standings b (enabled_in f world b)

-- once each of some was
abbrev pub asked_each : (Shown → Verdict) → Config → ℕ → List Standing → List ℕ → List Standing
asked_each f world round standings ids = fold (asked_again f world round) standings ids

-- the standings after an entry of an amoebot that leads to a world,
-- once these amoebots were asked again
abbrev pub next_standings : (Shown → Verdict) → Config → ℕ → ℕ → List ℕ → List Standing → List Standing
next_standings f world round bot ids standings =
    asked_each f world round (standings_after_entry round standings bot) ids

-- a meter after an entry of an amoebot that leads to a world, once these amoebots were asked again
abbrev pub next_metered : (Shown → Verdict) → Metered → ℕ → Config → List ℕ → Metered
next_metered f m bot world ids =
    let standings = next_standings f world (this_round m) bot ids m.standings in
    metered world (with_round_ended (record { standings = standings; rounds = m.rounds })) (m.fed + 1)

-- a change with this patch is decided on what an amoebot is shown
abbrev pub IsDecidedWith : (Shown → Verdict) → Config → ℕ → Triples → Type 0
IsDecidedWith f c bot patch =
    (change : Change) × (change.patch ≡ patch) × (f (shown c bot) ≡ verdict.Change change)

-- the patch of an amoebot's entry was entered: it led to the next world,
-- and those that may be shown another one were asked again
pub record IsEntered (f : Shown → Verdict) (old : Metered)
    (bot : ℕ) (patch : Triples) (new : Metered) : Type 0 where
  pub valid : IsValid old.world
  pub no_gaps : (b : ℕ) → b < length old.world.bots → IsSome (bot_at old.world b)
  pub size : length old.standings ≡ length old.world.bots
  pub patched : IsPatched old.world (plain_patch patch) new.world
  pub next : new ≡ next_metered f old bot new.world (ids_asked old.world (cells_among patch))

-- room for the nodes of ten cells: two for each
abbrev pub near_nodes_room : ℕ
near_nodes_room = 20

-- room for the amoebots on and round these nodes: seven for each
abbrev pub near_room : ℕ
near_room = 140
