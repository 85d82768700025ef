-- What only helpers, loops and proofs need: no part of the meaning.
pub mod Cases
pub mod Cuts
pub mod Patterns
pub mod Spelling
pub mod Pieces
pub mod Rest
