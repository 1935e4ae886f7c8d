pub mod Labels
pub mod CodeViews
pub mod Judged
