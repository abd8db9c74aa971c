pub mod Input
pub mod Told
pub mod Allowed
