-- Only laws need these.
pub mod Job
