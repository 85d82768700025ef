pub mod Edits
pub mod Changes
pub mod Becomes
pub mod laws
