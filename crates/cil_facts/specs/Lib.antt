pub mod Calling
pub mod Held
pub mod Laws
pub mod Whole
