pub mod Together
pub mod FilledTables
pub mod Audible
pub mod HeardOut
pub mod Peers
pub mod Paces
pub mod Decisions
pub mod RoundCounts
