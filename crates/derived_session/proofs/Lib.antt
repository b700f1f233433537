mod Noting
mod Walking
pub mod Places
pub mod Stands
mod Passing
mod Deriving
mod Making
mod Beginning
pub mod Stepping
pub mod Listed
pub mod ByCalls
