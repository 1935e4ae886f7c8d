pub mod Laws
pub mod Tracks
pub mod Plain
pub mod Parts
mod Ready
