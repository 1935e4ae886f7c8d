pub mod Found
pub mod NotWrong
