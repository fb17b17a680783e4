pub mod Kdf
pub mod Handover
pub mod Statements
