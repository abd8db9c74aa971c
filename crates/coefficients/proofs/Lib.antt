pub mod Number
pub mod Sizes
