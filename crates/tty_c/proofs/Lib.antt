pub mod Handling
pub mod LineMachine
pub mod Machine
pub mod Making
pub mod Meeting
pub mod PortMachine
pub mod ReceiverMachine
pub mod Telling
