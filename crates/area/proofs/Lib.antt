pub mod Counts
mod Names
mod Answering
mod Keeping
pub mod Using
