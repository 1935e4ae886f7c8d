pub mod Constraints
pub mod Order
pub mod Chains
pub mod Sets
pub mod Tables
pub mod Names
