pub mod Coded
pub mod Sets
pub mod Charges
