pub mod Author
pub mod laws
