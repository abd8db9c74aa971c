pub mod Work
pub mod Fingerprints
pub mod Entries
