pub mod Stands
pub mod Lowered
pub mod Theorems
