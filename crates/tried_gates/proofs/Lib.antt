pub mod Keeping
pub mod Skipped
pub mod NodeLoop
pub mod Gates
