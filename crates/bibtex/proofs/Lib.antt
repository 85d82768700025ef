pub mod SessionLemmas
pub mod TextLemmas
mod OrderLemmas
pub mod laws
