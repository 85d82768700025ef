-- Only helpers, loops and proofs need these. They are no part of the meaning.
pub mod Rows
