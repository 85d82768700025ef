pub mod ListingLemmas
pub mod StrayLemmas
pub mod CuttingLemmas
pub mod SplittingLemmas
pub mod PatternLemmas
pub mod LengthLemmas
pub mod CallLemmas
pub mod SectionLemmas
pub mod NameLemmas
pub mod CutLemmas
pub mod GroupLemmas
pub mod PieceLemmas
pub mod ClosedLemmas
pub mod SoundLemmas
pub mod WritingLemmas
mod rows
