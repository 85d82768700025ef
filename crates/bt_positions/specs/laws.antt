-- Only laws need these.
pub mod Places
pub mod Laws
