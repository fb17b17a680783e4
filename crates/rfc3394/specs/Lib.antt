pub mod Rfc3394
pub mod Statements
