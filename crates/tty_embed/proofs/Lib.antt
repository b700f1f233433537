pub mod Accepting
pub mod Reserving
