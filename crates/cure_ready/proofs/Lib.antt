pub mod Parts
pub mod PartStarts
pub mod Sizes
pub mod Instructions
pub mod Programs
