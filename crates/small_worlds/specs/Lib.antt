pub mod Marking
pub mod Resting
pub mod Rows
pub mod Tickets
pub mod Turns
pub use Rattle.amoebot_state.specs.Configs
pub use Rattle.amoebot_state.specs.Limits
pub use Rattle.amoebot_state.specs.Refusals
pub use Rattle.claim_core.specs.Turns as ClaimCoreTurns
pub use Rattle.model_ops.specs.Expansion
pub use Rattle.tri_lattice.specs.Lattice
