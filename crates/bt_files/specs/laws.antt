-- Only laws need these.
pub mod AuxText
pub mod Laws
