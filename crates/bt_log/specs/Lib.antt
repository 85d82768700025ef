pub mod Message
pub mod Wording
pub mod Log
pub mod inner
