pub mod TakenSeats
pub mod StateLemmas
pub mod MarkCopies
pub mod WorkersLemmas
pub mod MadeTurns
pub mod Fixed
