pub mod Accepted
pub mod Limited
pub mod Leaving
pub mod Calls
