pub mod Emptiness
pub mod Handing
pub mod Keeping
pub mod Noting
pub mod Settling
pub mod Putting
pub mod TakingIn
