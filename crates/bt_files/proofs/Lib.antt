pub mod NumberLemmas
pub mod TableLemmas
pub mod KeyLemmas
pub mod AuxWriteLemmas
pub mod MessageLemmas
pub mod laws
mod rows
