pub mod Pieces
pub mod Words
pub mod Expressions
pub mod Initialisers
pub mod Statements
pub mod Units
