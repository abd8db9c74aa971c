pub mod Depths
pub mod Writing
pub mod Told
