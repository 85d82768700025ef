-- Worked examples, proved by `refl`. Nothing depends on them.
mod RowWords
mod MacroRows
mod CrossrefRows
mod KeyRows
mod LimitRows
