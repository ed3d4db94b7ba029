pub mod Names
pub mod Choices
pub mod Values
pub mod Effects
pub mod Verdicts
pub mod Rows
pub mod Laws
