pub mod Seen
pub mod Reads
pub mod Numbers
pub mod Writes
