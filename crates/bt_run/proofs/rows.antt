-- Worked rows, proved by `refl`. Nothing needs them.
mod Rows
mod MeaningRows
