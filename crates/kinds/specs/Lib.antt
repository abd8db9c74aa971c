pub mod Kinds
pub mod Told
