pub mod RunLaws
pub mod InputLaws
