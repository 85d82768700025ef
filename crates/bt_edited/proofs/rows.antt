-- Worked examples, proved by `refl`. Nothing depends on them.
mod EditedRows
