-- Worked rows, proved by `refl`. Nothing needs them.
mod WholeRows
