pub mod Words
pub mod Tables
pub mod Sound
pub mod Statements
pub mod Stored
