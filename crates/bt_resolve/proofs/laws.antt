-- Only laws need these.
pub mod LawLemmas
pub mod Laws
