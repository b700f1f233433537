pub mod Calls
pub mod Ports
pub mod Printing
pub mod Modem
pub mod Jobs
pub mod Rows
pub mod ModemRows
pub mod JobRows
