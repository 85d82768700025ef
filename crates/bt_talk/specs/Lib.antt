pub mod Replies
pub mod Handled
pub mod Talks
pub mod laws
