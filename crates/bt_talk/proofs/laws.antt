-- Only laws need these.
pub mod OnceLemmas
pub mod Laws
