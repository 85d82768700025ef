-- Only helpers, loops and proofs need these. They are no part of the meaning.
pub mod Cases
pub mod Spot
pub mod Stop
pub mod Scan
pub mod Enclosure
pub mod Many
pub mod Pieces
pub mod Boundaries
pub mod CommonBoundary
pub mod PlacedPieces
pub mod ValueParts
