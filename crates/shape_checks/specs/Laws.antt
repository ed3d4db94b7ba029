-- What follows from the definitions alone.
use Rattle.std.specs.Prelude.{◌≡◌, ◌↔◌, ℕ, ◌<◌, ◌≤◌, ◌+◌, ◌*◌, ◌%◌, nat_lt, Bool, false, IsTrue, Decides, [], ◌∷◌}
use Rattle.std.specs.declared.option.Option.TheVariants.{Some}
use Rattle.tri_lattice.specs.declared.node.Node.{Node}
use Rattle.tri_lattice.specs.Lattice.{distance, Adjacent}
use Rattle.tri_lattice.specs.Sets.{IsConnected}
use Rattle.amoebot_state.specs.declared.bot.Bot.{Bot}
use Rattle.amoebot_state.specs.Configs.{Config, IsValid}
use Rattle.amoebot_state.specs.Occupied.{occupied}
use Rattle.shape_checks.specs.Hexagons.{ring_node, IsArc, IsHexagonAt, IsHexagon}

-- the places of a ring are the nodes at that distance
abbrev pub RingIsItsDistance : Type 0
RingIsItsDistance =
    (c v : Node) (r : ℕ) → 1 ≤ r → (distance c v ≡ r) ↔ ((k : ℕ) × (k < 6 * r) × (v ≡ ring_node c r k))

-- places that follow one another, going round, are neighbours
abbrev pub NextPlacesMeet : Type 0
NextPlacesMeet =
    (c : Node) (r k : ℕ) → 1 ≤ r → k < 6 * r → Adjacent (ring_node c r k) (ring_node c r ((k + 1) % (6 * r)))

-- where of four places in this order the first and the third pass,
-- and the second and the last do not, those that pass are no arc
abbrev pub TwoRunsAreNoArc : Type 0
TwoRunsAreNoArc =
    (p : ℕ → Bool) (m i j k l : ℕ)
    → i < j
    → j < k
    → k < l
    → l < m
    → IsTrue (p i)
    → p j ≡ false
    → IsTrue (p k)
    → p l ≡ false
    → ¬ IsArc p m

-- the node is nearer than so far
abbrev pub nearer : Node → ℕ → Node → Bool
nearer c r v = nat_lt (distance c v) r

-- full rings are a hexagon, with an empty last ring and with a full one
abbrev pub FullRingsAreHexagons : Type 0
FullRingsAreHexagons =
    (c : Node) (r : ℕ) → 1 ≤ r → IsHexagonAt (nearer c r) c r × IsHexagonAt (nearer c (r + 1)) c r

-- round one node a set is a hexagon of one radius only, or of two that follow one another:
-- then the first one's ring is full and the other's is empty
abbrev pub RadiiFollow : Type 0
RadiiFollow =
    (S : Node → Bool) (c : Node) (r s : ℕ)
    → IsHexagonAt S c r
    → IsHexagonAt S c s
    → r < s
    → (s ≡ r + 1) × ((v : Node) → IsTrue (S v) ↔ (distance c v ≤ r))

-- a hexagon is connected
abbrev pub HexagonsAreConnected : Type 0
HexagonsAreConnected = (S : Node → Bool) (c : Node) (r : ℕ) → IsHexagonAt S c r → IsConnected S

-- one contracted amoebot alone is a hexagon
abbrev pub OneAloneIsHexagon : Type 0
OneAloneIsHexagon = (w : Config) (b : Bot) → IsValid w → w.bots ≡ Some b ∷ [] → b.head ≡ b.tail → IsHexagon w

-- for each valid configuration an answer tells whether its shape is connected,
-- and one whether it is a hexagon
abbrev pub MeasuresAreDecided : Type 0
MeasuresAreDecided =
    (c : Config)
    → IsValid c
    → ((b : Bool) × Decides b (IsConnected (occupied c))) × ((b : Bool) × Decides b (IsHexagon c))
