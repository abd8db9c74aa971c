pub mod Sets
pub mod Codes
pub mod Pairs
pub mod Charge
