pub mod Limits
pub mod Lookup
pub mod Chains
