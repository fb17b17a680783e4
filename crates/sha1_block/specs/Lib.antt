pub mod Statements
pub mod Internal
