-- What follows from the definitions alone.
use Rattle.std.specs.Prelude.{◌≡◌, ◌≢◌, ◌↔◌, ◌⊎◌, ◌<◌, ◌≤◌, ℕ, List, [], ◌∷◌, ◌++◌, IsSome, Bool, true, false, map, length, slice_get, IsTrue}
use Rattle.std.specs.List.{All, AllPairs, Contains, count_by}
use Rattle.std.specs.declared.option.Option.{Option}
use Rattle.std.specs.declared.option.Option.TheVariants.{Some, None}
use Rattle.tri_lattice.specs.declared.node.Node.{Node}
use Rattle.tri_lattice.specs.Lattice.{node_eq, Adjacent}
use Rattle.tri_lattice.specs.Extent.{Extent, IsArea, index_of, is_in}
use Rattle.amoebot_state.specs.declared.bot.Bot.{Bot}
use Rattle.amoebot_state.specs.declared.bot.Port.{Port}
use Rattle.amoebot_state.specs.declared.cell.CellName.{CellName}
use Rattle.amoebot_state.specs.declared.cell.CellName.TheVariants as name
use Rattle.amoebot_state.specs.declared.cell.Cell.{Cell}
use Rattle.amoebot_state.specs.declared.refusal.WorldRefusal.{WorldRefusal}
use Rattle.amoebot_state.specs.declared.verdict.Entry.{Entry}
use Rattle.amoebot_state.specs.declared.verdict.Verdict.{Verdict}
use Rattle.amoebot_state.specs.Pairs.{Pairs, Triples, cell_of, cell_value, plain_patch}
use Rattle.amoebot_state.specs.Ports.{global, local, is_port, ports, behind, is_beside}
use Rattle.amoebot_state.specs.Walls.{has_node, has_number, node_numbers}
use Rattle.amoebot_state.specs.Configs.{Config, IsValid, bot_at, is_wall, occupant, value, frame, walled_frame, with_these}
use Rattle.amoebot_state.specs.Zones.{Shown, IsShown, distinct, zone_nodes, zone_at, zone, shown, shown_alone}
use Rattle.amoebot_state.specs.Known.{IsFront, known_zone, next_cell}
use Rattle.amoebot_state.specs.Patches.{HasSameIds, IsPatched, IsOrdered, HasOldValues, same_value, diff}
use Rattle.amoebot_state.specs.Refusals.{AreWalls, IsBotInRange, IsFaultless, IsFirstFault, IsFirstRefusal}
use Rattle.amoebot_state.specs.Occupied.{occupied}
use Rattle.amoebot_state.specs.Steps.{Step, Run}
use Rattle.amoebot_state.specs.SerialTurns.{SerialTurn}
use Rattle.amoebot_state.specs.declared.verdict.Turned.{Turned}

-- local and global directions are both 0 to 5, and the one is the inverse of the other,
-- with either chirality
abbrev pub GlobalAndLocalAreInverse : Type 0
GlobalAndLocalAreInverse =
    (b : Bot) (d : ℕ)
    → b.rot < 6
    → d < 6
    → (global b d < 6) × (local b d < 6) × (local b (global b d) ≡ d) × (global b (local b d) ≡ d)

-- a contracted amoebot has six ports
abbrev pub ContractedHasSixPorts : Type 0
ContractedHasSixPorts = (b : Bot) → b.head ≡ b.tail → length (ports b) ≡ 6

-- an expanded amoebot has ten
abbrev pub ExpandedHasTenPorts : Type 0
ExpandedHasTenPorts = (b : Bot) → b.rot < 6 → Adjacent b.head b.tail → length (ports b) ≡ 10

-- the six ports of a contracted amoebot lead to six nodes
abbrev pub SixPortsLeadToSixNodes : Type 0
SixPortsLeadToSixNodes =
    (b : Bot) → b.rot < 6 → b.head ≡ b.tail → length (distinct node_eq (map (behind b) (ports b))) ≡ 6

-- the ten ports of an expanded amoebot lead to eight
abbrev pub TenPortsLeadToEightNodes : Type 0
TenPortsLeadToEightNodes =
    (b : Bot) → b.rot < 6 → Adjacent b.head b.tail → length (distinct node_eq (map (behind b) (ports b))) ≡ 8

-- the node behind a pair of an end and a direction, as a port is one, is beside the amoebot
abbrev pub PortLeadsBeside : Type 0
PortLeadsBeside = (b : Bot) (p : Port) → IsTrue (is_beside b (behind b p))

-- the own amoebot and the occupants of the zone's nodes determine the zone
abbrev pub ZoneIsDetermined : Type 0
ZoneIsDetermined =
    (a : Extent) (i : ℕ) (b : Bot) (on by : Node → Option ℕ)
    → ((v : Node) → Contains (zone_nodes a b) v → on v ≡ by v)
    → zone_at a on i (Some b) ≡ zone_at a by i (Some b)

-- what an amoebot is shown lists the cells of its zone, in zone order
abbrev pub ShownListsZone : Type 0
ShownListsZone = (c : Config) (i : ℕ) → map cell_of (shown c i).cells ≡ zone c i

-- and each with what it holds
abbrev pub ShownHoldsValues : Type 0
ShownHoldsValues =
    (c : Config) (i : ℕ)
    → All (λ (p : CellName × Cell). value c (cell_of p) ≡ Some (cell_value p)) (shown c i).cells

-- what is known of a zone, when a front of it was read, is a front of it
abbrev pub KnownIsFront : Type 0
KnownIsFront =
    (c : Config) (i : ℕ) (cells : Pairs)
    → IsSome (bot_at c i)
    → IsFront cells (shown c i).cells
    → IsFront (known_zone c.area i cells) (zone c i)

-- the next cell is then the zone's next one; there is none where there is none in the zone
abbrev pub NextIsInZone : Type 0
NextIsInZone =
    (c : Config) (i : ℕ) (cells : Pairs)
    → IsSome (bot_at c i)
    → IsFront cells (shown c i).cells
    → next_cell c.area i cells ≡ slice_get (zone c i) (length cells)

-- the next cell has a value, and with it the cells that were read are a front again
abbrev pub FrontGrows : Type 0
FrontGrows =
    (c : Config) (i : ℕ) (cells : Pairs) (n : CellName)
    → IsSome (bot_at c i)
    → IsFront cells (shown c i).cells
    → next_cell c.area i cells ≡ Some n
    → (x : Cell) × (value c n ≡ Some x) × IsFront (cells ++ (n, x) ∷ []) (shown c i).cells

-- it is none of those that were read
abbrev pub NextIsNew : Type 0
NextIsNew =
    (c : Config) (i : ℕ) (cells : Pairs) (n : CellName)
    → IsSome (bot_at c i)
    → IsFront cells (shown c i).cells
    → next_cell c.area i cells ≡ Some n
    → All (λ (p : CellName × Cell). cell_of p ≢ n) cells

-- what is known grows at its end alone: further cells that are read
-- leave the cells before as they were
abbrev pub KnownGrowsAtItsEnd : Type 0
KnownGrowsAtItsEnd =
    (c : Config) (i : ℕ) (cells more : Pairs)
    → IsSome (bot_at c i)
    → IsFront (cells ++ more) (shown c i).cells
    → IsFront (known_zone c.area i cells) (known_zone c.area i (cells ++ more))

-- there is no next cell exactly where what was read is all that the amoebot is shown
abbrev pub WholeZoneIsShown : Type 0
WholeZoneIsShown =
    (c : Config) (i : ℕ) (cells : Pairs)
    → IsSome (bot_at c i)
    → IsFront cells (shown c i).cells
    → (next_cell c.area i cells ≡ None) ↔ (cells ≡ (shown c i).cells)

-- what was read of one configuration is a front of the zone in each other one with the same area
-- in which the cells that were read hold the same
abbrev pub FrontStands : Type 0
FrontStands =
    (c d : Config) (i : ℕ) (cells : Pairs)
    → d.area ≡ c.area
    → IsFront cells (shown c i).cells
    → All (λ (p : CellName × Cell). value d (cell_of p) ≡ Some (cell_value p)) cells
    → IsFront cells (shown d i).cells

-- no cell stands twice in a zone
abbrev pub ZoneListsEachCellOnce : Type 0
ZoneListsEachCellOnce = (c : Config) (i : ℕ) → AllPairs (λ x y. x ≢ y) (zone c i)

-- the cell is a node
abbrev pub is_spot : CellName → Bool
is_spot (name.Spot v) = true
is_spot (name.Body i) = false

-- the cell is a body
abbrev pub is_body : CellName → Bool
is_body (name.Spot v) = false
is_body (name.Body i) = true

-- a zone of a valid configuration has at most ten nodes
abbrev pub ZoneHasAtMostTenNodes : Type 0
ZoneHasAtMostTenNodes = (c : Config) (i : ℕ) → IsValid c → count_by is_spot (zone c i) ≤ 10

-- and at most nine bodies
abbrev pub ZoneHasAtMostNineBodies : Type 0
ZoneHasAtMostNineBodies = (c : Config) (i : ℕ) → IsValid c → count_by is_body (zone c i) ≤ 9

-- the node behind a port is in the zone, if it lies in the area
abbrev pub NodeBehindPortIsInZone : Type 0
NodeBehindPortIsInZone =
    (c : Config) (i : ℕ) (b : Bot) (p : Port)
    → bot_at c i ≡ Some b
    → IsTrue (is_port b p)
    → IsTrue (is_in c.area (behind b p))
    → Contains (zone c i) (name.Spot (behind b p))

-- and so is the body of its occupant; what is occupied lies in the area
abbrev pub OccupantBehindPortIsInZone : Type 0
OccupantBehindPortIsInZone =
    (c : Config) (i j : ℕ) (b : Bot) (p : Port)
    → IsValid c
    → bot_at c i ≡ Some b
    → IsTrue (is_port b p)
    → occupant c (behind b p) ≡ Some j
    → Contains (zone c i) (name.Body j)

-- the configuration that has what is shown and no other amoebot shows just that
abbrev pub ShownAloneShowsTheSame : Type 0
ShownAloneShowsTheSame = (s : Shown) → IsShown s → shown (shown_alone s) s.bot ≡ s

-- at most one configuration is the one that a patch leads to
abbrev pub PatchedIsUnique : Type 0
PatchedIsUnique =
    (old one two : Config) (ps : Pairs) → IsPatched old ps one → IsPatched old ps two → one ≡ two

-- a patch lists each cell whose value differs
abbrev pub PatchListsWhatDiffers : Type 0
PatchListsWhatDiffers =
    (old new : Config) (ps : Pairs)
    → IsPatched old ps new
    → (n : CellName)
    → value new n ≢ value old n
    → Contains (map cell_of ps) n

-- a step has at most one result
abbrev pub StepHasOneResult : Type 0
StepHasOneResult =
    (f : Shown → Verdict) (old : Config) (e : Entry) (one two : Config)
    → Step f old e one
    → Step f old e two
    → one ≡ two

-- so a run has at most one last configuration
abbrev pub RunHasOneLast : Type 0
RunHasOneLast =
    (f : Shown → Verdict) (old : Config) (es : List Entry) (one two : Config)
    → Run f old es one
    → Run f old es two
    → one ≡ two

-- the test of what cells hold answers whether it is equal
abbrev pub SameValueIsEquality : Type 0
SameValueIsEquality = (x y : Option Cell) → IsTrue (same_value x y) ↔ (x ≡ y)

-- the difference of two valid configurations that differ in their amoebots at most and have
-- the same ids leads from the old one to the new one; each cell that it lists differs,
-- and its old values are those of the old one
abbrev pub DiffLeads : Type 0
DiffLeads =
    (old new : Config)
    → IsValid old
    → IsValid new
    → HasSameIds old new
    → IsPatched old (plain_patch (diff old new)) new
    × All (λ (p : CellName × Cell). value old (cell_of p) ≢ Some (cell_value p)) (plain_patch (diff old new))
    × HasOldValues old (diff old new)

-- an ordered patch that leads from one valid configuration to another, each of whose cells differs,
-- and whose old values are those of the first one, is their difference
abbrev pub OrderedPatchIsDiff : Type 0
OrderedPatchIsDiff =
    (old new : Config) (ps : Triples)
    → IsValid old
    → IsPatched old (plain_patch ps) new
    → IsOrdered (plain_patch ps)
    → All (λ (p : CellName × Cell). value old (cell_of p) ≢ Some (cell_value p)) (plain_patch ps)
    → HasOldValues old ps
    → ps ≡ diff old new

-- patches with the same cells and new values, and with the old values of one configuration, are one
abbrev pub OldValuesAreOne : Type 0
OldValuesAreOne =
    (c : Config) (ps qs : Triples)
    → HasOldValues c ps
    → HasOldValues c qs
    → plain_patch ps ≡ plain_patch qs
    → ps ≡ qs

-- no amoebot of a valid configuration is refused
abbrev pub ValidIsFaultless : Type 0
ValidIsFaultless =
    (c : Config) (bots : List Bot) → IsValid (with_these c bots) → IsFaultless c bots (length bots)

-- amoebots of which none is refused in a valid frame make a valid configuration
abbrev pub FaultlessIsValid : Type 0
FaultlessIsValid =
    (c : Config) (bots : List Bot)
    → IsValid (frame c)
    → All IsBotInRange bots
    → IsFaultless c bots (length bots)
    → IsValid (with_these c bots)

-- at most one fault is the first one of a list of amoebots
abbrev pub FirstFaultIsUnique : Type 0
FirstFaultIsUnique =
    (c : Config) (bots : List Bot) (one two : WorldRefusal)
    → IsFirstFault c bots one
    → IsFirstFault c bots two
    → one ≡ two

-- and amoebots of which none is refused have none
abbrev pub FaultlessHasNoFault : Type 0
FaultlessHasNoFault =
    (c : Config) (bots : List Bot) (e : WorldRefusal)
    → IsFaultless c bots (length bots) → ¬ IsFirstFault c bots e

-- at most one refusal is the first one of a list of walls and a list of amoebots
abbrev pub FirstRefusalIsUnique : Type 0
FirstRefusalIsUnique =
    (a : Extent) (walls : List Node) (maxes : List ℕ) (bots : List Bot) (one two : WorldRefusal)
    → IsFirstRefusal a walls maxes bots one
    → IsFirstRefusal a walls maxes bots two
    → one ≡ two

-- and walls that may stand there, with amoebots of which none is refused beside them, have none
abbrev pub LawfulHasNoRefusal : Type 0
LawfulHasNoRefusal =
    (a : Extent) (walls : List Node) (maxes : List ℕ) (bots : List Bot) (e : WorldRefusal)
    → AreWalls a walls (length walls)
    → IsFaultless (walled_frame a walls maxes) bots (length bots)
    → ¬ IsFirstRefusal a walls maxes bots e

-- a frame with walls, of an area and of eight maxima, is valid
abbrev pub WalledFrameIsValid : Type 0
WalledFrameIsValid =
    (a : Extent) (walls : List Node) (maxes : List ℕ) → IsArea a
    → length maxes ≡ 8 → IsValid (walled_frame a walls maxes)

-- a node of the area is one of these nodes exactly where its number is one of their numbers
abbrev pub NodesAreTheirNumbers : Type 0
NodesAreTheirNumbers =
    (a : Extent) (vs : List Node) (v : Node)
    → IsTrue (is_in a v)
    → has_number (node_numbers a vs) (index_of a v) ≡ has_node vs v

-- the configuration that has what is shown and no other amoebot is valid
abbrev pub ShownAloneIsValid : Type 0
ShownAloneIsValid = (s : Shown) → IsShown s → IsValid (shown_alone s)

-- each cell of a zone holds in the configuration that has what is shown and no other amoebot what
-- it holds in the one that shows it
abbrev pub ShownAloneHoldsTheSame : Type 0
ShownAloneHoldsTheSame =
    (c : Config) (i : ℕ) (n : CellName)
    → IsValid c
    → IsSome (bot_at c i)
    → Contains (zone c i) n
    → value (shown_alone (shown c i)) n ≡ value c n

-- Take the configuration that has what is shown and no other amoebot.
-- An amoebot is in it exactly where it is in the one that shows it, and its body is in the zone.
abbrev pub ShownAloneHasTheZone : Type 0
ShownAloneHasTheZone =
    (c : Config) (i j : ℕ) (b : Bot)
    → (bot_at (shown_alone (shown c i)) j ≡ Some b)
    ↔ ((bot_at c j ≡ Some b) × Contains (zone c i) (name.Body j))

-- it has none with an id exactly where the body of that id is not in the zone
abbrev pub NoneIsOutsideTheZone : Type 0
NoneIsOutsideTheZone =
    (c : Config) (i j : ℕ)
    → (bot_at (shown_alone (shown c i)) j ≡ None) ↔ (¬ Contains (zone c i) (name.Body j))

-- A node that is the amoebot's own or adjacent to one has the same occupant in both,
-- whether it is in the area or not.
abbrev pub BesideHoldsTheSame : Type 0
BesideHoldsTheSame =
    (c : Config) (i : ℕ) (b : Bot) (v : Node)
    → IsValid c
    → bot_at c i ≡ Some b
    → IsTrue (is_beside b v)
    → occupant (shown_alone (shown c i)) v ≡ occupant c v

-- Its walls are those of the zone.
abbrev pub ShownHasTheWalls : Type 0
ShownHasTheWalls =
    (c : Config) (i : ℕ) (v : Node)
    → IsTrue (is_wall (shown_alone (shown c i)) v)
    ↔ (IsTrue (is_wall c v) × Contains (zone c i) (name.Spot v))

-- A node that is the amoebot's own or adjacent to one is a wall in both or in neither.
abbrev pub BesideHasTheSameWalls : Type 0
BesideHasTheSameWalls =
    (c : Config) (i : ℕ) (b : Bot) (v : Node)
    → IsValid c
    → bot_at c i ≡ Some b
    → IsTrue (is_beside b v)
    → is_wall (shown_alone (shown c i)) v ≡ is_wall c v

-- in a valid configuration a node is occupied exactly where it is the head
-- or the tail of an amoebot of it
abbrev pub OccupiedIsOccupant : Type 0
OccupiedIsOccupant =
    (c : Config) (v : Node)
    → IsValid c
    → IsTrue (occupied c v) ↔ ((i : ℕ) × (b : Bot) × (bot_at c i ≡ Some b) × ((b.head ≡ v) ⊎ (b.tail ≡ v)))

-- a turn has at most one answer, and leaves at most one configuration
abbrev pub SerialTurnIsUnique : Type 0
SerialTurnIsUnique =
    (f : Shown → Verdict) (caller turn bot : ℕ) (old : Config) (one two : Turned) (new other : Config)
    → SerialTurn f caller turn bot old one new
    → SerialTurn f caller turn bot old two other
    → (one ≡ two) × (new ≡ other)
