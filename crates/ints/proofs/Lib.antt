pub mod Int
pub mod Poly
pub mod Machine
pub mod Bools
pub mod Bits
pub mod Runs
pub mod Powers
