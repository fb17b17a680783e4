pub mod Rfc5295
pub mod Requests
pub mod Statements
