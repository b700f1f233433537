pub mod Bits
pub mod Names
pub mod Printed
pub mod Reading
pub mod Settings
pub mod Slots
pub mod Utf8
pub mod Word
