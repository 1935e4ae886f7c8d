pub mod WordLaws
pub mod SignedLaws
