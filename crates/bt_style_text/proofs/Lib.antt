pub mod WordLemmas
pub mod MoreLemmas
