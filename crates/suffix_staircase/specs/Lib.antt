pub mod Levels
pub mod Stretches
pub mod Receives
pub mod NextSteps
pub mod Analysis
