pub mod Adding
pub mod Pieces
pub mod Asked
