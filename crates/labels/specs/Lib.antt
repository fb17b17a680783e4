pub mod Bytes
pub mod Syntax
pub mod FixedLabels
pub mod Checks
pub mod Statements
pub mod Internal
