pub mod Legal
pub mod Phases
pub mod Ports
pub mod Short
pub mod Order
pub mod Rows
