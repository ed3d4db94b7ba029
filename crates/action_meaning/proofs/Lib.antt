-- Lemmas.
pub mod Alongside
pub mod BlockedLemmas
pub mod Decided
pub mod Computed
pub mod Lineless
