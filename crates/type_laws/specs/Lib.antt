pub mod Small
pub mod Theorems
