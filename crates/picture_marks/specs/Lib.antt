pub mod Windows
pub mod Gathered
pub mod Messages
pub mod Rows
pub mod Strokes
pub mod Pictures
pub mod Marks
