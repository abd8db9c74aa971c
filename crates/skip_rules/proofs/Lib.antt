pub mod Pruned
pub mod Sifting
