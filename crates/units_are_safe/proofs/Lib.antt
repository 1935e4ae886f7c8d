pub mod Forms
pub mod Values
pub mod Statements
pub mod Units
