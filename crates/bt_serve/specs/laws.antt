-- Only laws need these.
pub mod Serves
pub mod Edits
pub mod Laws
