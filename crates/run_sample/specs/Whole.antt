-- A sample whole. All of it is this project's profile.
use Rattle.std.specs.Prelude.{◌≡◌, ℕ, List, true}
use Rattle.amoebot_state.specs.declared.bot.Bot.{Bot}
use Rattle.amoebot_state.specs.Configs.{with_these}
use Rattle.action_tree.specs.Shipped as trees
use Rattle.run_sample.specs.declared.whole.Sample.{Sample}
use Rattle.run_sample.specs.Sample.{AreSample, sample_frame}
use Rattle.run_sample.specs.Callers.{sample_lists}

-- the sample of a seed: the program `hexagon` with its guard on, a world of the seed's amoebots,
-- and the lists
pub record IsSample (seed : ℕ) (s : Sample) : Type 0 where
  pub program : s.checked ≡ record trees.hexagon { guard = true }
  pub bots : List Bot
  pub come : AreSample seed bots
  pub world : s.world ≡ with_these sample_frame bots
  pub lists : s.lists ≡ sample_lists
