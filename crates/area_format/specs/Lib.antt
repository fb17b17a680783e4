pub mod Area
pub mod Cases
pub mod Names
pub mod Statements
