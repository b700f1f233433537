pub mod Listed
pub mod Tables
pub mod Left
pub mod Steps
