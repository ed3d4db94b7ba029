pub mod WorkEnds
