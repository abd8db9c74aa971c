pub mod Columns
pub mod Live
