pub mod EndedRuns
pub mod ToldLines
pub mod SilentMembers
