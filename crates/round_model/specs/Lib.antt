pub mod RoundStates
pub mod Agreement
pub mod HeardSets
pub mod NodeLists
pub mod BoundedDecision
