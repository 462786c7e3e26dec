pub mod Common
pub mod MissSearches
pub mod GapSearches
pub mod ReceiveSearches
pub mod GapsBetween
pub mod GapLists
