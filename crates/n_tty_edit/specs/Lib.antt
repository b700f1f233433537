pub mod Bytes
pub mod Line
pub mod Width
pub mod Typed
