pub mod Words
pub mod Options
pub mod Folders
pub mod Sinks
pub mod JobFiles
pub mod Shots
pub mod inner
