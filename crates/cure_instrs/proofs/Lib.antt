pub mod PieceLaws
pub mod KnownLaws
pub mod FitLaws
pub mod SetLaws
pub mod CalculateLaws
pub mod SeatLaws
pub mod AccessLaws
