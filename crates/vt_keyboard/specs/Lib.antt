pub mod Operating
pub mod Phases
pub mod Keying
pub mod Consoles
