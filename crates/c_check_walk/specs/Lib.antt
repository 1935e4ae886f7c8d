pub mod Nests
pub mod CheckingViews
pub mod NamedViews
pub mod Listed
pub mod Ending
