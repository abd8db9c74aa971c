pub mod Walks
pub mod NotEmpty
pub mod Tables
