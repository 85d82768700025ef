-- Only laws need these.
pub mod Order
pub mod Laws
