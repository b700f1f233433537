pub mod Consoles
