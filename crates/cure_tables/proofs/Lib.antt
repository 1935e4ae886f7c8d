pub mod Classes
pub mod Signed
pub mod Pushing
pub mod Statics
