-- Only helpers, loops and proofs need these. They are no part of the meaning.
pub mod Cases
pub mod NameTable
pub mod FileNames
pub mod LineEffects
pub mod NestedFiles
pub mod Queue
