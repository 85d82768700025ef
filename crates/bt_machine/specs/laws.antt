-- Only laws need these.
pub mod Eval
pub mod Step
pub mod OwnEntry
pub mod Fits
