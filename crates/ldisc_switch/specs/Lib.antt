pub mod Disciplines
pub mod Happenings
pub mod Posted
pub mod Rows
