-- The sample of a seed: 150 contracted amoebots, of which 100 fill a square
-- and 50 come beside them one by one.
-- All of it is this project's profile; the generator is PCG32.
use Rattle.std.specs.Prelude.{◌≡◌, ℕ, zero, suc, pos, ◌+◌, ◌/◌, ◌%◌, ◌<◌, ◌≤◌, ◌≤ℤ◌, List, [], ◌∷◌, ◌++◌, Bool, false, IsTrue, length, slice_index_or}
use Rattle.std.specs.List.{list_any}
use Rattle.tri_lattice.specs.declared.node.Node.{Node}
use Rattle.tri_lattice.specs.Lattice.{step, node_eq}
use Rattle.tri_lattice.specs.Extent.{Extent}
use Rattle.amoebot_state.specs.declared.bot.Bot.{Bot}
use Rattle.amoebot_state.specs.declared.bot.Chir.TheVariants.{Plus}
use Rattle.amoebot_state.specs.Configs.{Config, frame_of, blank}
use Rattle.rand_core.specs.Pcg32Seed.{pcg32_seed}
use Rattle.rand_pcg.specs.Lcg.{Lcg}
use Rattle.rand_pcg.specs.Pcg.{pcg32, pcg32_of_seed}

-- how many amoebots fill the square, and how many a sample has
abbrev pub square_bots : ℕ
square_bots = 100

abbrev pub sample_bots : ℕ
sample_bots = 150

-- the generator of a seed
unfoldable pub seeded : ℕ → Lcg
seeded seed = pcg32_of_seed (pcg32_seed 16 seed)

-- a number below n: the generator's next word modulo n; and the generator after that word
unfoldable pub draw : Lcg → ℕ → ℕ
draw g n = (pcg32 g).0 % n

unfoldable pub drawn : Lcg → Lcg
drawn g = (pcg32 g).1

-- the nodes of the amoebots, as a set
abbrev pub is_taken : List Bot → Node → Bool
is_taken bots v = list_any (λ (b : Bot). node_eq b.head v) bots

-- the node so many steps away in a direction
abbrev pub walked : Node → ℕ → ℕ → Node
walked v d zero = v
walked v d (suc n) = step (walked v d n) d

-- the first node that is met from another one in a direction and is not taken
pub record IsFirstEmpty (bots : List Bot) (from : Node) (d : ℕ) (v : Node) : Type 0 where
  pub steps : ℕ
  pub some : 1 ≤ steps
  pub at : v ≡ walked from d steps
  pub empty : is_taken bots v ≡ false
  pub before : (s : ℕ) → 1 ≤ s → s < steps → IsTrue (is_taken bots (walked from d s))

-- the values of the amoebot with an id: the first is the seed of the hexagon
abbrev pub sample_memory : ℕ → List ℕ
sample_memory zero = 1 ∷ 6 ∷ 0 ∷ 0 ∷ 0 ∷ 0 ∷ 0 ∷ 0 ∷ []
sample_memory (suc n) = 0 ∷ 6 ∷ 6 ∷ 0 ∷ 0 ∷ 0 ∷ 0 ∷ 0 ∷ []

-- the contracted amoebot with an id, on a node
abbrev pub bot_on : ℕ → Node → ℕ → Bot
bot_on id v rot = record { head = v; tail = v; rot = rot; chir = Plus; mem = sample_memory id }

-- the nodes of a square of 10 by 10, row by row
abbrev pub square_node : ℕ → Node
square_node id = record { x = pos (59 + id % 10); y = pos (59 + id / 10) }

-- the node of an amoebot
abbrev pub node_of : List Bot → ℕ → Node
node_of bots i = (slice_index_or bots i blank).head

-- the amoebot that comes next, with the generator after it.
-- The first 100 fill the square, and each draws its rotation.
-- Each later one draws an amoebot and then a direction,
-- comes on the first empty node that is met from there, and then draws its rotation
pub data IsNextBot (bots : List Bot) (g : Lcg) : Bot → Lcg → Type 0 where
  in_square : length bots < square_bots
      → IsNextBot bots g (bot_on (length bots) (square_node (length bots)) (draw g 6)) (drawn g)
  beside : {v : Node}
      → square_bots ≤ length bots
      → IsFirstEmpty bots (node_of bots (draw g (length bots))) (draw (drawn g) 6) v
      → IsNextBot bots g (bot_on (length bots) v (draw (drawn (drawn g)) 6)) (drawn (drawn (drawn g)))

-- amoebots that came one by one, with the generator after them
pub data Placed (seed : ℕ) : List Bot → Lcg → Type 0 where
  none : Placed seed [] (seeded seed)
  more : {bots : List Bot} {b : Bot} {g h : Lcg} → Placed seed bots g
      → IsNextBot bots g b h → Placed seed (bots ++ b ∷ []) h

-- the amoebots of a seed's sample
pub record AreSample (seed : ℕ) (bots : List Bot) : Type 0 where
  pub many : length bots ≡ sample_bots
  pub left : Lcg
  pub placed : Placed seed bots left

-- 50 or less away from the square, in either coordinate
pub record IsInside (v : Node) : Type 0 where
  pub x_low : pos 9 ≤ℤ v.x
  pub x_high : v.x ≤ℤ pos 118
  pub y_low : pos 9 ≤ℤ v.y
  pub y_high : v.y ≤ℤ pos 118

-- the area of a sample
abbrev pub sample_area : Extent
sample_area = record { x0 = pos 0; y0 = pos 0; w = 128; h = 128 }

-- the greatest values of the variables of `hexagon`
abbrev pub sample_maxes : List ℕ
sample_maxes = 4 ∷ 6 ∷ 6 ∷ 0 ∷ 0 ∷ 0 ∷ 0 ∷ 0 ∷ []

-- a sample without its amoebots
abbrev pub sample_frame : Config
sample_frame = frame_of sample_area sample_maxes
