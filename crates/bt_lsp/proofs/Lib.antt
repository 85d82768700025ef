pub mod PlacingPlain
pub mod StylePlain
pub mod PlainLemmas
pub mod TakenLemmas
pub mod CarriedLemmas
