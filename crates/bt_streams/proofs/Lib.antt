pub mod ReadLemmas
pub mod WriteLemmas
pub mod KnownLemmas
