pub mod Options
pub mod Messages
pub mod Ranges
pub mod Digits
pub mod Worlds
pub mod Basics
pub mod Pairs
pub mod Operands
pub mod Assignments
pub mod Beyond
pub mod Rules
pub mod AllRules
pub mod CoverLemmas
pub mod Steps
pub mod Runs
pub mod FollowLemmas
pub mod StateLemmas
mod rows
