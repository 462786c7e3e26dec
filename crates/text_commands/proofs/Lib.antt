pub mod DeclinedTraces
pub mod WrittenAnswers
pub mod CheckFaults
pub mod JudgedTraces
pub mod ImportFaults
pub mod ReadBack
pub mod WindowFaults
pub mod TablesRead
