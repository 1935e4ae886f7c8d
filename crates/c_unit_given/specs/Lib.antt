pub mod Tokens
pub mod Theorems
