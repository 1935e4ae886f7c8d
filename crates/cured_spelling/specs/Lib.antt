pub mod Lines
pub mod Spelling
pub mod InRange
pub mod Plain
