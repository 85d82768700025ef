-- Only laws need these.
pub mod Laws
