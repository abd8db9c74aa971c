pub mod Copies
pub mod Rechecked
pub mod Noded
