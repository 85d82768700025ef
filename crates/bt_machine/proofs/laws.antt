-- Only laws need these.
pub mod KeepingEval
pub mod Equations
pub mod Local
pub mod Costs
pub mod Storing
pub mod Fitting
pub mod Laws
