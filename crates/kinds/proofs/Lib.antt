pub mod ByNumber
pub mod Told
