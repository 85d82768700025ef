pub mod MoreLemmas
pub mod PlainLemmas
