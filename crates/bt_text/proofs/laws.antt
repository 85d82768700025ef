-- Only laws need these.
pub mod JoinLemmas
pub mod BreakingLemmas
pub mod Laws
