pub mod Signed
pub mod Objects
