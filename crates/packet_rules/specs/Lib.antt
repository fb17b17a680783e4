pub mod Packet
pub mod Mac
pub mod Statements
pub mod Cases
