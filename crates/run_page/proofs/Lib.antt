pub mod EvidenceWindows
pub mod SilenceTimes
pub mod TickSearches
