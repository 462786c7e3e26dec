pub mod GatheredLists
pub mod ShownMarks
pub mod ColumnSteps
pub mod RowPlaces
pub mod MissMarks
pub mod GapMarks
