pub mod Paying
pub mod Commas
pub mod PaidTrees
pub mod PaidParts
pub mod PaidStatements
pub mod PaidUnits
