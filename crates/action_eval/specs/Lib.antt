pub mod Known
pub mod UnderNames
pub mod Running
pub use Rattle.action_check.specs.Limits as ActionCheckLimits
pub use Rattle.action_check.specs.Rules
pub use Rattle.action_tree.specs.Scopes
pub use Rattle.action_meaning.specs.Laws
pub use Rattle.action_meaning.specs.Names
pub use Rattle.action_meaning.specs.Values
pub use Rattle.action_meaning.specs.Verdicts
pub use Rattle.action_tree.specs.Limits as ActionTreeLimits
pub use Rattle.action_tree.specs.Stored
pub use Rattle.action_tree.specs.Trees
pub use Rattle.action_tree.specs.Views
pub use Rattle.action_tree.specs.Writable
pub use Rattle.amoebot_state.specs.Limits as AmoebotStateLimits
pub use Rattle.amoebot_state.specs.Ports
pub use Rattle.amoebot_state.specs.Refusals
pub use Rattle.amoebot_state.specs.Zones
pub use Rattle.model_ops.specs.Reaches
pub use Rattle.model_ops.specs.WorkingCopies
