pub mod Objects
pub mod Theorems
