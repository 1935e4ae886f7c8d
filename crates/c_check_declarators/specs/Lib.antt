pub mod WordViews
pub mod DerivedViews
pub mod MakingViews
