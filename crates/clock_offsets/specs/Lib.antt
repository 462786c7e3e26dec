pub mod ClockOffsets
pub mod Matrices
pub mod EventNeeds
pub mod MovedClocks
pub mod ClockCycles
