pub mod Tables
pub mod Rows
pub mod Arcs
pub mod Gaps
