-- Only laws need these.
pub mod Once
pub mod Laws
