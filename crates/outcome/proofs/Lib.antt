pub mod Handing
pub mod Counts
pub mod KeyLengths
pub mod Positions
mod Flags
mod Zeros
