-- Only laws need these.
pub mod TextLemmas
pub mod OrderLemmas
pub mod Laws
