pub mod JobLemmas
pub mod JobRunLemmas
mod PlainLemmas
pub mod laws
