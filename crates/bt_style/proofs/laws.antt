-- Only laws need these.
pub mod BuiltinLemmas
pub mod SpelledLemmas
pub mod DeclaredLemmas
pub mod UsesLemmas
pub mod MeaningLemmas
pub mod ReadBackLemmas
pub mod QuoteLemmas
pub mod ReaderLemmas
pub mod FreshLemmas
pub mod OnLineLemmas
pub mod RuleLemmas
pub mod FirstLemmas
pub mod PieceLemmas
pub mod CutLemmas
pub mod TextLemmas
pub mod Laws
