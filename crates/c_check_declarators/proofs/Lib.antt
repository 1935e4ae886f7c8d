pub mod TagLaws
pub mod PlaceLaws
pub mod PartLaws
pub mod GrowthLaws
