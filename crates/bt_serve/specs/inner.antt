-- What only helpers, loops and proofs need: no part of the meaning.
pub mod Commands
pub mod Asked
pub mod Serves
