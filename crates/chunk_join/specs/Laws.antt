-- That pieces of one trace join, and give the piece of both together: the proofs, smallest first.
pub mod Listings
pub mod Thinned
pub mod LastReceives
pub mod TakenIds
pub mod SettledFates
pub mod SentMessages
pub mod SilencesJoined
pub mod PartsJoined
pub mod PiecesJoined
pub mod DigestsJoined
