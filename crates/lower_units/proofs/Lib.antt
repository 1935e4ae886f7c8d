pub mod HeadLaws
pub mod Lists
pub mod MainLaws
pub mod StaticLaws
pub mod UnitLaws
