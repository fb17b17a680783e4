mod Parts
pub mod Writing
pub mod Cases
