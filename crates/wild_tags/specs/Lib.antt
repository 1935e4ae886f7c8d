pub mod Words
pub mod Calls
pub mod Inside
pub mod Order
