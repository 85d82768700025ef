-- What only helpers, loops and proofs need: no part of the meaning.
pub mod TokenCode
pub mod Cursor
pub mod Names
pub mod Draft
pub mod Bodies
pub mod Numbers
pub mod Reach
pub mod Cases
