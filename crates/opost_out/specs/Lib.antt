pub mod Column
pub mod Posted
