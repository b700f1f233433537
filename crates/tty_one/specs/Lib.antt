pub mod Endings
pub mod Reported
pub mod Consoles
pub mod Processes
pub mod ModemLines
pub mod Outcome
pub mod Works
