pub mod Counts
pub mod Breaches
