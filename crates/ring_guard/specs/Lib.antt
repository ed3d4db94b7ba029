pub mod Rings
pub mod Laws
pub mod Gap
