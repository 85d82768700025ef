-- What only helpers, loops and proofs need: no part of the meaning.
pub mod BodyCode
pub mod Kept
pub mod Left
pub mod Moved
pub mod Logged
pub mod Converted
pub mod Part
