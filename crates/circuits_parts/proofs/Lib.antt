pub mod Widths
pub mod Replies
