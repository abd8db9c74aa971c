pub mod Divided
pub mod Lowering
