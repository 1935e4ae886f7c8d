pub mod WordKinds
pub mod Turns
pub mod RunWords
pub mod OneWord
pub mod Refused
pub mod Asked
