pub mod Reports
pub mod Columns
pub mod ReportTexts
pub mod ReportRefusals
pub mod ReportReading
pub mod LongRefusals
pub mod RefusalTexts
