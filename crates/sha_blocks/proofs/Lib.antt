mod Values
pub mod Window
mod Ring
mod Blocks
pub mod Terms
