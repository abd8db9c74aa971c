pub mod Told
pub mod Work
