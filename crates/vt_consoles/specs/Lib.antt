pub mod Runs
pub mod Boards
pub mod Faults
pub mod Keys
pub mod Histories
pub mod Seats
pub mod Shared
