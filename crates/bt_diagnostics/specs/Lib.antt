pub mod Spans
pub mod Keys
pub mod Diagnostics
