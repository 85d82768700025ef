pub mod Present
pub mod Edit
pub mod Applied
pub mod Headline
pub mod EntryText
pub mod inner
pub mod laws
