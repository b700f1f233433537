pub mod Beginning
pub mod Children
pub mod Counting
pub mod Marks
pub mod Ties
