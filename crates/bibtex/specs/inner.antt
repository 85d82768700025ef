-- What only helpers, loops and proofs need: no part of the meaning.
pub mod Present
pub mod Cases
