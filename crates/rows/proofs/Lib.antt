pub mod ByMask
pub mod Sweeps
pub mod Pairs
pub mod PhaseSweeps
pub mod Runs
