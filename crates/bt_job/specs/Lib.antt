pub mod FileNames
pub mod Faults
pub mod Lines
pub mod Citations
pub mod AuxOnly
pub mod Fit
pub mod inner
pub mod laws
