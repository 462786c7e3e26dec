pub mod Common
mod SilentSenders
mod FirstPlaces
mod EndedRounds
mod SentMessages
mod DecidedMembers
mod RoundTellers
mod RoundOrders
mod HeardOutRounds
pub mod NotedPeers
pub mod OrderedTakes
mod PacedSteps
mod PacedMembers
pub mod CountedRounds
