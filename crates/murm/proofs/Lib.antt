pub mod Builds
pub mod Asked
pub mod Queried
