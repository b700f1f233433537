pub mod Carried
pub mod Derived
pub mod Listed
pub mod ByEvents
