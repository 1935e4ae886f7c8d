pub mod CodeViews
pub mod ContextViews
