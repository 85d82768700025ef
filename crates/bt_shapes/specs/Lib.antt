pub mod Shapes
pub mod Text
