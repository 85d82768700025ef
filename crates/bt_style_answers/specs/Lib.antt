pub mod References
pub mod Hovering
pub mod Outline
pub mod Hinting
pub mod Folding
pub mod Completion
pub mod Renaming
