-- Worked rows, proved by `refl`. Nothing needs them.
mod RowWorlds
mod NumberRows
mod ComparingRows
mod TextRows
mod AssigningRows
mod ReadingRows
mod StackingRows
mod WritingRows
mod LoggingRows
