pub mod Verdicts
pub mod Summaries
pub mod Texts
pub mod Answers
pub mod Causes
pub mod Statuses
