pub mod TypeNodes
pub mod Classes
pub mod Numbering
