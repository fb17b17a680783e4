pub mod Ts33402
pub mod Rfc5448
pub mod Statements
