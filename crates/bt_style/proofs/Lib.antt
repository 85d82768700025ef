pub mod SeekLemmas
pub mod TokenLemmas
pub mod DecimalLemmas
pub mod BodyLemmas
pub mod CommandLemmas
pub mod PlaceLemmas
pub mod NameLemmas
pub mod SpelledLemmas
pub mod DeclaredLemmas
pub mod KeptLemmas
pub mod ApartLemmas
pub mod PresetLemmas
pub mod ReachLemmas
pub mod FoundLemmas
pub mod SearchLemmas
pub mod ReachedLemmas
pub mod laws
mod rows
