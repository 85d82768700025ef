pub mod Headers
pub mod Frames
pub mod Framed
pub mod inner
