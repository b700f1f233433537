pub mod Attempts
pub mod Flips
pub mod Flushes
pub mod Given
pub mod Inside
pub mod Phases
pub mod Ports
