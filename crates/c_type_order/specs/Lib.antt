pub mod TypesUsed
pub mod Uses
pub mod Theorems
