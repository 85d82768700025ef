pub mod Known
pub mod Paper
