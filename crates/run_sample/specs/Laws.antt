-- What follows from the definitions alone.
use Rattle.std.specs.Prelude.{◌≡◌, ℕ, List, [], ◌∷◌, IsSome, IsTrue, length}
use Rattle.std.specs.List.{All}
use Rattle.tri_lattice.specs.Sets.{IsConnected}
use Rattle.tri_lattice.specs.declared.node.Node.{Node}
use Rattle.amoebot_state.specs.declared.bot.Bot.{Bot}
use Rattle.amoebot_state.specs.Configs.{IsValid, bot_at}
use Rattle.amoebot_state.specs.Occupied.{occupied}
use Rattle.claim_core.specs.Turns.{AreLists}
use Rattle.run_sample.specs.declared.whole.Sample.{Sample}
use Rattle.run_sample.specs.Whole.{IsSample}
use Rattle.run_sample.specs.Sample.{Placed, IsFirstEmpty, IsInside, bot_on, sample_bots, square_node, seeded, drawn}

-- at most one node is the first empty one
abbrev pub FirstEmptyIsUnique : Type 0
FirstEmptyIsUnique =
    (bots : List Bot) (from : Node) (d : ℕ) (u v : Node)
    → IsFirstEmpty bots from d u
    → IsFirstEmpty bots from d v
    → u ≡ v

-- a seed has at most one sample
abbrev pub SampleIsUnique : Type 0
SampleIsUnique =
    (seed : ℕ) (one two : Sample)
    → IsSample seed one
    → IsSample seed two
    → (one.checked ≡ two.checked) × (one.world ≡ two.world) × (one.lists ≡ two.lists)

-- each seed has a sample
abbrev pub SampleIsSome : Type 0
SampleIsSome = (seed : ℕ) → (s : Sample) × IsSample seed s

-- the first two amoebots of seed one are turned by 0 and by 2
abbrev pub FirstOfSeedOne : Type 0
FirstOfSeedOne =
    Placed 1 (bot_on 0 (square_node 0) 0 ∷ bot_on 1 (square_node 1) 2 ∷ []) (drawn (drawn (seeded 1)))

-- A sample has 150 amoebots in a valid world, whose shape is connected and not far from the square.
-- Its lists are such as callers may have, and their amoebots are among those.
pub record IsFit (s : Sample) : Type 0 where
  pub valid : IsValid s.world
  pub many : length s.world.bots ≡ sample_bots
  pub connected : IsConnected (occupied s.world)
  pub inside : (v : Node) → IsTrue (occupied s.world v) → IsInside v
  pub listed : AreLists s.lists
  pub there : All (All (λ id. IsSome (bot_at s.world id))) s.lists.ids

abbrev pub SampleIsFit : Type 0
SampleIsFit = (seed : ℕ) (s : Sample) → IsSample seed s → IsFit s
