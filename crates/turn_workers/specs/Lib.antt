pub use Rattle.amoebot_state.specs.Configs
pub use Rattle.claim_core.specs.Good
pub use Rattle.claim_core.specs.Limits
pub use Rattle.claim_core.specs.Reached
pub use Rattle.claim_rule.specs.Views
pub use Rattle.caller_workers.specs.Laws
pub use Rattle.caller_workers.specs.Turns
