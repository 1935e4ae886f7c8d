pub mod Composition
pub mod Combinators
pub mod Loops
pub mod Completeness
pub mod Promises
pub mod OneAnswer
pub mod Example
