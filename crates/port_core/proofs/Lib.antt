mod CanWait
mod Emptiness
pub mod Answering
pub mod Calls
pub mod Ending
pub mod Fitting
pub mod Giving
pub mod GoingOn
pub mod Handing
pub mod Raising
pub mod Taking
