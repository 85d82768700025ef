-- What only helpers, loops and proofs need: no part of the meaning.
pub mod Cases
pub mod TitlePlace
pub mod Merging
pub mod Chunks
pub mod Endings
pub mod KeptBytes
pub mod Runs
pub mod Titles
