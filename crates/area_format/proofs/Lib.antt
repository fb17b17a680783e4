pub mod Cases
mod Ending
pub mod Fields
pub mod Places
pub mod Ways
