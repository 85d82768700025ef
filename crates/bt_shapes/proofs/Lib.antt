pub mod MoreLemmas
pub mod PlainLists
pub mod TextLemmas
pub mod rows
