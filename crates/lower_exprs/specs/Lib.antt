pub mod Drafts
pub mod Ready
