pub mod ScopeLaws
pub mod TypeSearch
pub mod SameLaws
pub mod KindLaws
pub mod ValueLaws
pub mod OpenScopes
pub mod GrowingLaws
