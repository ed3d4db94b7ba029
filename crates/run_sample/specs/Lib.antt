pub mod Sample
pub mod Callers
pub mod Whole
pub mod Laws
pub use Rattle.action_tree.specs.Shipped
pub use Rattle.amoebot_state.specs.Occupied
pub use Rattle.tri_lattice.specs.Sets
