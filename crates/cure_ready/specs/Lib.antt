pub mod Curable
pub mod Theorems
