pub mod Frames
pub mod ByValue
pub mod Parts
