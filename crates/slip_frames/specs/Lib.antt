pub mod Slip
pub mod Decoding
pub mod Inside
