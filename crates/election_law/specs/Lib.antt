pub mod Unguarded
pub mod Elections
pub mod States
pub mod Starts
pub mod Laws
pub mod Parts
