pub mod Rows
pub mod Moving
pub mod Comparing
pub mod Calling
pub mod Tagged
pub mod Words
pub mod Small
