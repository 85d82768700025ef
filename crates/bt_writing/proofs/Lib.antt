pub mod RespellingPlain
pub mod FeaturePlain
pub mod StyleActionsPlain
pub mod CompletingPlain
pub mod PlainLemmas
pub mod FileLemmas
pub mod MoreLemmas
