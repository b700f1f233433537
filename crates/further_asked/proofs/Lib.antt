pub mod Texts
pub mod Mixing
pub mod Scripts
pub mod Passing
pub mod Jobs
pub mod Modem
