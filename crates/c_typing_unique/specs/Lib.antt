pub mod Points
pub mod Sameness
pub mod Theorems
