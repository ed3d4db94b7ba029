-- What an election keeps.
use Rattle.std.specs.Prelude.{ℕ, refl}
use Rattle.std.specs.Coded.{Coded, code_by, coded×, coded_ℕ}
use Rattle.amoebot_state.specs.contracts.world.World as worlds
use Rattle.amoebot_state.specs.Configs.{Config, IsValid}
use Rattle.shape_checks.specs.Hexagons.{AreContracted}
use Rattle.action_tree.specs.Stored.{program_code}
use Rattle.action_tree.specs.Trees.{Program}
use Rattle.election_law.specs.Elections.{IsElected}

-- a program, the world that was reached, and how many steps led there
pub record ElectionState : Type 0 where
  pub program : Program
  pub world : Config
  pub steps : ℕ

-- how the logic stores it
abbrev pub election_code : Coded ElectionState
election_code =
    code_by (Program × (Config × ℕ)) (coded× program_code (coded× worlds.the_row.coded coded_ℕ))
    (λ e. (e.program, (e.world, e.steps)))
    (λ p. record { program = p.0; world = p.1.0; steps = p.1.1 }) (λ _. refl)

-- a world of an election: it is valid and elected, and each amoebot has one node
pub record IsElection (c : Config) : Type 0 where
  pub valid : IsValid c
  pub contracted : AreContracted c
  pub elected : IsElected c
