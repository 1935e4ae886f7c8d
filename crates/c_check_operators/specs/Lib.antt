pub mod MemberViews
pub mod ShapeViews
