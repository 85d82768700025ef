-- Only laws need these.
pub mod ByNameLemmas
pub mod Laws
