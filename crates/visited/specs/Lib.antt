pub mod Visited
pub mod Statements
