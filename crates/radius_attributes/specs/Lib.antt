pub mod Attributes
pub mod Statements
