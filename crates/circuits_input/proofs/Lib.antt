pub mod InputLines
pub mod LineReads
pub mod Inputs
pub mod Accepts
pub mod Example
