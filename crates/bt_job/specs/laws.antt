-- Only laws need these.
pub mod ByAux
pub mod Lines
