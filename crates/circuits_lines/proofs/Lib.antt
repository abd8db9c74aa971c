pub mod Each
pub mod Example
