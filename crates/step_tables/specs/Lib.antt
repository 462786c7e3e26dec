pub mod Moves
pub mod Records
pub mod RefusalTexts
pub mod Tables
pub mod TickBegins
pub mod Told
