pub mod Made
pub mod AsSource
