pub mod LoggingLemmas
pub mod GivenLemmas
mod rows
