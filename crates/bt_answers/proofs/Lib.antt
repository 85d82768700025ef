pub mod FeaturePlain
pub mod PlainLemmas
pub mod KeyLemmas
pub mod MentionLemmas
pub mod AroundLemmas
pub mod laws
