pub mod Embedded
pub mod Inside
