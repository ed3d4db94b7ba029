pub mod EachBelow
pub mod Nodes
pub mod Steps
pub mod Boxes
pub mod Rings
pub mod Paths
mod LatticeExamples
