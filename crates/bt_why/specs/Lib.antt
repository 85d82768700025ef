pub mod Erased
pub mod Named
