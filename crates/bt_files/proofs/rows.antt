-- Worked rows, proved by `refl`. Nothing needs them.
mod NamesRows
mod AuxTextRows
