-- Only laws need these.
pub mod BibText
pub mod Laws
pub mod Parts
pub mod Spelling
pub mod Spelled
pub mod SpelledLaws
