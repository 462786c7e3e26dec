pub mod Followers
pub mod Tables
pub mod TimeoutTexts
