-- Worked rows, proved by `refl`. Nothing needs them.
mod FaultRows
mod StyleRows
mod LawRows
