pub mod Shipped
pub mod Texts
pub use Rattle.action_tree.specs.Shipped as ActionTreeShipped
pub use Rattle.action_tree.specs.Trees
pub use Rattle.action_tree.specs.Views
