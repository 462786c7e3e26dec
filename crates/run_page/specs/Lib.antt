pub mod EvidenceTicks
pub mod Notes
pub mod Pens
pub mod Pieces
pub mod Spreads
pub mod TickSteps
