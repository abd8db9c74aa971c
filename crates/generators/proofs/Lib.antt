pub mod Generated
pub mod Most
pub mod Fills
