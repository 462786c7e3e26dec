pub mod Common
mod PassedTurns
mod Processors
mod Filters
mod DueMessages
mod UnderWay
mod LastTicks
mod KeptDeadlines
mod KeptBounds
mod Openings
mod StepsMade
mod KeptDues
