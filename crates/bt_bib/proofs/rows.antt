-- Worked examples, proved by `refl`. Nothing depends on them.
mod AuxRows
mod BibRows
mod SpliceRows
mod FirstRows
mod SpelledRows
