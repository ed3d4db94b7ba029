pub mod Unpacking
pub mod EntryLists
pub mod MergeSteps
pub mod OwnMerges
pub mod OwnLemmas
pub mod TicketEnds
pub mod TicketReports
