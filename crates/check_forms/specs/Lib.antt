pub mod Pieces
pub mod Conditions
pub mod Rows
pub mod Tests
pub mod Lines
pub mod RowChecks
