pub mod Tokens
pub mod Fullness
pub mod Levels
pub mod Elements
pub mod Lists
pub mod ListsLemmas
pub mod RoleFacts
pub mod Behind
