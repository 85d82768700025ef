pub mod Checked
pub mod Values
pub mod Wording
