pub mod rows
mod KeyLemmas
