pub mod NotedEvidence
pub mod OwnGaps
pub mod LinkMisses
pub mod KnownRows
pub mod RowLists
pub mod GreatestBounds
pub mod ListedRows
