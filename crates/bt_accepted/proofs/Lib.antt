pub mod FieldCounts
pub mod Linked
