pub mod Solved
pub mod Inferred
pub mod Built
pub mod Alike
