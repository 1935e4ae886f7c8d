pub mod Ground
pub mod Objects
pub mod Accesses
pub mod Related
pub mod Outcomes
pub mod Points
pub mod Small
pub mod Laws
