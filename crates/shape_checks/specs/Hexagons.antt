-- Hexagons of occupied nodes: full rings round a node, and a last ring that may be part of one.
-- That such a shape is called a hexagon is this project's profile; rings,
-- distances and contracted amoebots are the paper's lattice.
use Rattle.std.specs.Prelude.{◌≡◌, ℕ, ◌<◌, ◌≤◌, ◌*◌, ◌/◌, ◌%◌, pos, ◌+ℤ◌, ◌*ℤ◌, Bool, IsTrue, length}
use Rattle.std.specs.declared.option.Option.TheVariants.{Some}
use Rattle.tri_lattice.specs.declared.node.Node.{Node}
use Rattle.tri_lattice.specs.Lattice.{dx, dy, turned, distance}
use Rattle.amoebot_state.specs.declared.bot.Bot.{Bot}
use Rattle.amoebot_state.specs.Configs.{Config, bot_at}
use Rattle.amoebot_state.specs.Occupied.{occupied}
use Rattle.shape_checks.specs.Arcs.{AreFirst}

-- the node so many steps away in direction d
abbrev pub steps_away : Node → ℕ → ℕ → Node
steps_away v d n = record { x = v.x +ℤ (dx d *ℤ pos n); y = v.y +ℤ (dy d *ℤ pos n) }

-- a place of the ring of radius r round c, going round from the corner in direction 0:
-- the ring has six sides of r nodes, and side s begins at the corner in direction s
-- and leads towards the next corner
abbrev pub ring_node : Node → ℕ → ℕ → Node
ring_node c r k = steps_away (steps_away c (k / r) r) (turned (k / r) 2) (k % r)

-- of m places in a circle those of an arc, and no others, pass a test: the first n from place i on,
-- going round.
-- With n = 0 none passes, with n = m all do
abbrev pub IsArc : (ℕ → Bool) → ℕ → Type 0
IsArc p m = (i : ℕ) × (n : ℕ) × (i < m) × AreFirst p m i n

-- a set of nodes is a hexagon of radius r round c: it has all nodes at a distance below r,
-- none above r, and of the ring at distance r none, all, or some that follow one another
pub record IsHexagonAt (S : Node → Bool) (c : Node) (r : ℕ) : Type 0 where
  pub some : 1 ≤ r
  pub inside : (v : Node) → distance c v < r → IsTrue (S v)
  pub outside : (v : Node) → IsTrue (S v) → distance c v ≤ r
  pub last : IsArc (λ k. S (ring_node c r k)) (6 * r)

-- each amoebot has one node
abbrev pub AreContracted : Config → Type 0
AreContracted w = (i : ℕ) (b : Bot) → bot_at w i ≡ Some b → b.head ≡ b.tail

-- there is an amoebot, all are contracted, and their nodes are a hexagon round some node
pub record IsHexagon (w : Config) : Type 0 where
  pub some : 0 < length w.bots
  pub contracted : AreContracted w
  pub centre : Node
  pub radius : ℕ
  pub shape : IsHexagonAt (occupied w) centre radius
