mod DifferLemmas
mod NameLemmas
pub mod laws
