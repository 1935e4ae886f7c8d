pub mod Parsers
pub mod Grammars
pub mod Rules
pub mod Promises
pub mod Example
