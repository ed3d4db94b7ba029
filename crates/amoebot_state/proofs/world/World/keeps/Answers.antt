use Rattle.std.proofs.Common.{ℕ, ◌<◌, ◌≤◌, length, subst}
use Rattle.std.specs.Prelude.{IsSome}
use Rattle.amoebot_state.specs.Configs.{Config, IsValid, bot_at}
use Rattle.amoebot_state.specs.Limits.{most_bots}
use Rattle.amoebot_state.proofs.Options.{all_there}
use Rattle.amoebot_state.proofs.world.World.keeps.Goals as goal

pub returns-clause-valid : goal.returns-clause-valid
returns-clause-valid c = subst IsValid c.self.view_is c.self.invariant.valid

pub returns-clause-few : goal.returns-clause-few
returns-clause-few c = subst (λ (d : Config). length d.bots ≤ most_bots) c.self.view_is c.self.invariant.few

pub returns-clause-no_gaps : goal.returns-clause-no_gaps
returns-clause-no_gaps c = subst (λ (d : Config). (id : ℕ) → id < length d.bots → IsSome (bot_at d id)) c.self.view_is (all_there c.self.inside.amoebots.items)
