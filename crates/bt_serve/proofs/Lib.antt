pub mod WordLemmas
pub mod TakenLemmas
pub mod TurnLemmas
pub mod WholeLemmas
pub mod ServedLemmas
pub mod FaultLemmas
pub mod EditLemmas
pub mod EditedLemmas
pub mod laws
mod rows
