pub mod Prints
pub mod Copies
pub mod Formed
