pub mod CalmRows
pub mod Stretches
pub mod StepFacts
pub mod DelayRuns
pub mod EvidenceLists
pub mod ReportRows
pub mod NamedPlaces
pub mod CountedMessages
