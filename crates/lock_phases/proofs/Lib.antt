pub mod Common
pub mod Membership
pub mod Counting
pub mod RoundLaws
pub mod ProperLaws
pub mod LockLaws
pub mod QuorumLaws
pub mod ListingLaws
pub mod LockingLaws
pub mod AcknowledgingLaws
pub mod ReleasingLaws
pub mod OriginLaws
pub mod SentBodies
pub mod HeardProcessors
pub mod SendingLaws
pub mod Sendings
mod ValuePlaces
mod LockPlaces
pub mod Rising
mod Growing
