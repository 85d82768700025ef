pub mod Names
pub mod Messages
pub mod AuxText
pub mod laws
