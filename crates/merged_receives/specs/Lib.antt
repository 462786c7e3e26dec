pub mod Merges
pub mod MergeWalks
pub mod Pieces
pub mod HeadSizes
pub mod Actors
