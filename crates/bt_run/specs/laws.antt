-- Only laws need these.
pub mod ByName
pub mod Laws
