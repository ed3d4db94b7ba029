pub mod Lattice
pub mod Extent
pub mod Sets
pub mod Laws
