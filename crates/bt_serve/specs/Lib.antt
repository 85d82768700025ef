pub mod Faults
pub mod Commands
pub mod Serves
pub mod Whole
pub mod Edits
pub mod inner
pub mod laws
