pub mod EntryLaws
pub mod StackLaws
