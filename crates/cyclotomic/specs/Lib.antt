pub mod Zomega
pub mod Told
