-- What only helpers, loops and proofs need: no part of the meaning.
pub mod Loop
pub mod Footprint
pub mod Substitution
pub mod Cases
