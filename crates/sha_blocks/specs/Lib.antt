pub mod Ring
pub mod Sums
