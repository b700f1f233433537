pub mod Control
pub mod Roster
pub mod Keeping
pub mod Rows
