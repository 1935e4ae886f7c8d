pub mod Spending
pub mod Given
pub mod Limits
pub mod Theorems
