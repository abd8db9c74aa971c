pub mod Split
pub mod Placing
pub mod Back
pub mod Accepts
