pub mod Messages
pub mod inner
pub mod laws
