-- Only laws need these.
pub mod NumberLemmas
pub mod TableLemmas
pub mod MetLemmas
pub mod MessageLemmas
pub mod AuxTextLemmas
pub mod AuxReadLemmas
pub mod AuxNameLemmas
pub mod Laws
