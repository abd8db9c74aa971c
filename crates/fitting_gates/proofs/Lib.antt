pub mod TwoSifted
