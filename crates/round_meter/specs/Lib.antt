pub mod Rounds
pub mod Meters
pub mod Tallies
pub mod Asking
pub mod Laws
