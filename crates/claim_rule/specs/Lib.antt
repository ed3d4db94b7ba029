pub mod Words
pub mod Views
pub mod Manners
pub mod Stands
pub mod Plays
pub mod Commits
pub mod Nexts
pub mod Tokens
pub mod Settling
pub mod Seating
pub mod Opened
pub mod Closing
pub mod Internal
pub mod Laws
pub use Rattle.amoebot_state.specs.Configs
pub use Rattle.amoebot_state.specs.Limits as AmoebotStateLimits
pub use Rattle.claim_core.specs.Cells
pub use Rattle.claim_core.specs.Limits as ClaimCoreLimits
pub use Rattle.claim_core.specs.Machine
pub use Rattle.claim_core.specs.Tags
pub use Rattle.claim_core.specs.Turns
