pub mod Laws
pub mod GuardLaws
