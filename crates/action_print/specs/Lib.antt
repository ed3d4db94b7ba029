pub mod Canon
pub mod Pins
pub mod Rows
pub mod ReadsBack
pub use Rattle.action_tree.specs.Views
pub use Rattle.text_tokens.specs.Lines
