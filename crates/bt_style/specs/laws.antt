-- Only laws need these.
pub mod Builtins
pub mod Spelled
pub mod Apart
pub mod Uses
pub mod Laws
