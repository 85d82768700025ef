-- Only laws need these.
pub mod PlaceLemmas
pub mod Laws
