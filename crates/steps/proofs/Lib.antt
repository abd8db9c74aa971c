pub mod Steps
pub mod Masks
pub mod Several
