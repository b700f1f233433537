pub mod Queue
pub mod Discipline
pub mod History
pub mod Kept
pub mod Counted
