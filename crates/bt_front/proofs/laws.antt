-- Only laws need these.
pub mod JobLemmas
pub mod TextLemmas
pub mod Laws
