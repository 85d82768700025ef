-- Only laws need these.
pub mod WholeLemmas
pub mod EditLemmas
pub mod Laws
