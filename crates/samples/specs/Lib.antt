pub mod Walks
pub mod Tables
