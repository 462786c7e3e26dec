pub mod RefusalsGoOn
pub mod SortedWords
pub mod TickLengths
