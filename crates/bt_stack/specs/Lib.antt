pub mod Desk
pub mod Tops
pub mod Forms
pub mod Choice
pub mod Assigning
pub mod View
pub mod inner
