pub mod Laws
pub mod Rewinds
pub mod Unwinding
pub use Rattle.amoebot_state.specs.Configs
pub use Rattle.amoebot_state.specs.Steps
pub use Rattle.serial_model.specs.Replays
