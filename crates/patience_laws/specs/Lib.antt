pub mod PacedRuns
pub mod Silence
pub mod RoundTicks
pub mod LeastRounds
pub mod Meetings
pub mod Gatherings
