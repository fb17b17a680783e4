pub mod Lengths
pub mod Splitting
pub mod Walking
