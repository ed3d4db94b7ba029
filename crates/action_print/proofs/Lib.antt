pub mod PinLemmas
pub mod RowLemmas
pub mod Leaves
pub mod ExpressionsRead
pub mod StatementsRead
pub mod ProgramsRead
pub mod Lineless
