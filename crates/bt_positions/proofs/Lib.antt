pub mod LineLemmas
pub mod StartLemmas
pub mod WidthLemmas
pub mod MarkLemmas
pub mod laws
mod SpliceLemmas
