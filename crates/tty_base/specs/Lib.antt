pub mod Characters
pub mod Contents
pub mod Held
pub mod Lines
pub mod Memory
pub mod Outside
pub mod Sizes
