pub mod PowersOfTwo
pub mod PowersOfTen
pub mod RoundSteps
pub mod NameLists
pub mod LaneFacts
