pub mod Builds
pub mod Runs
pub mod Whole
