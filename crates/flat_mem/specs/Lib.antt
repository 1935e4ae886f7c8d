pub mod Bytes
pub mod Rows
pub mod Placement
pub mod Memory
pub mod Marks
pub mod Tags
pub mod Plans
