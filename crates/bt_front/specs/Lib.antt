pub mod Job
pub mod JobRun
pub mod laws
