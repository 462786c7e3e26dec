pub mod JoinedReceives
pub mod MergeWalks
pub mod OwnParts
pub mod OneMerge
pub mod Pieces
pub mod HeadSizes
pub mod ActorEvents
