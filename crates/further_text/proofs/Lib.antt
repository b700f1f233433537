pub mod Drafts
pub mod Items
pub mod Lines
pub mod Spelled
