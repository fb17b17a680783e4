pub mod Finding
pub mod Placing
