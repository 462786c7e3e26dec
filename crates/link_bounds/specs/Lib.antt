pub mod Links
pub mod Rows
pub mod Evidence
pub mod KnownGaps
pub mod KnownMisses
pub mod Passes
pub mod RowTexts
