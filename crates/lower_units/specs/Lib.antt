pub mod Heads
pub mod Mains
pub mod Ready
pub mod Statics
pub mod Units
