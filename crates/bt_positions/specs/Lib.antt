pub mod Units
pub mod Lines
pub mod Positions
pub mod inner
pub mod laws
