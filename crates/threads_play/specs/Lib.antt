pub mod PortsInPlay
