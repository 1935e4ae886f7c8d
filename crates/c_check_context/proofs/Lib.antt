pub mod LinkageLaws
pub mod ConflictLaws
