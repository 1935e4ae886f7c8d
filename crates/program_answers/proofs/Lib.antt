pub mod JudgedStatuses
pub mod Reasons
