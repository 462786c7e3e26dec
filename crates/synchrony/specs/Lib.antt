pub mod LineFaults
pub mod Stops
