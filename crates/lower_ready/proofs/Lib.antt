pub mod Expressions
pub mod Initialisers
pub mod Objects
pub mod Statements
pub mod Units
