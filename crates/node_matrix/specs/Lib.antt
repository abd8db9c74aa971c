pub mod Matrices
