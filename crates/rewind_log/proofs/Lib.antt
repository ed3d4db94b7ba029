pub mod StepBacks
pub mod Backs
pub mod Unwound
