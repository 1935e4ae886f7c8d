pub mod TestLaws
pub mod ConditionLaws
pub mod RowLaws
pub mod EdgeRows
