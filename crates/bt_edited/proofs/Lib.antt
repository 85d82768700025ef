pub mod laws
mod rows
