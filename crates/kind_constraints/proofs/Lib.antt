pub mod Adding
pub mod HeldTypes
pub mod Belows
pub mod Kept
pub mod LargestMember
pub mod GivenLaws
pub mod GivenPieces
