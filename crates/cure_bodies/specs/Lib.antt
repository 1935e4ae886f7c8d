pub mod Holding
pub mod Results
pub mod Bodies
pub mod Ready
