mod Lines
mod Numbers
mod Parts
mod Rows
mod Truths
mod Walks
mod Whole
pub mod Spelled
mod Splitting
mod Answering
mod AnsweringModes
mod PrintedEntries
pub mod PrintedTexts
pub mod EntryLines
mod Short
pub mod Within
