-- What only helpers, loops and proofs need: no part of the meaning.
pub mod LineStarts
pub mod Marks
