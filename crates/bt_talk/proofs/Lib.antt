pub mod PlainLemmas
pub mod SendLemmas
pub mod TalkLemmas
pub mod laws
