pub mod ShownLanes
pub mod Places
pub mod Axes
pub mod MarkWords
pub mod Titles
pub mod TimeAxes
pub mod Strips
