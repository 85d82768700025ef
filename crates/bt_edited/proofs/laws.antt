-- Only laws need these.
pub mod BecomesLemmas
pub mod ConverseLemmas
pub mod Laws
