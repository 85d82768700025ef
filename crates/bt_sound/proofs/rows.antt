-- Worked values of the definitions.
mod ExcludedRows
mod KnownRows
mod RunRows
