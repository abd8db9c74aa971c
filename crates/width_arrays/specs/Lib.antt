pub mod Arrays
pub mod Put
