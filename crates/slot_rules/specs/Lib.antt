pub mod Table
pub mod Parents
pub mod Calls
pub mod Stored
pub mod Statements
