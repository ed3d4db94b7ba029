pub mod JournalRows
pub mod Journals
pub mod Limits
pub mod OldValueRows
pub mod Readers
pub mod Rereading
pub mod Texts
pub mod TextRows
pub mod TurnRows
pub mod Turns
pub mod Views
pub use Rattle.amoebot_state.specs.Limits as AmoebotStateLimits
pub use Rattle.text_tokens.specs.Lawful
pub use Rattle.text_tokens.specs.Steps
