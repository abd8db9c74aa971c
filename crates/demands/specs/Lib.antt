pub mod Demands
pub mod Further
