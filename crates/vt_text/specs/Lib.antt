pub mod Sessions
pub mod Verbs
pub mod Items
pub mod Reading
pub mod Views
pub mod Rows
pub mod Limits
pub mod Left
