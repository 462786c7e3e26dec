pub mod Rooms
pub mod CorrectMasks
pub mod Answers
pub mod Commands
