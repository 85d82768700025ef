pub mod Words
pub mod Sentences
