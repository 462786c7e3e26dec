pub mod LastMisses
pub mod LongestGaps
pub mod TickWindows
pub mod WitnessSearches
