pub mod Equivalent
pub mod Four
pub mod Mix
pub mod Rounds
pub mod Steps
pub mod Xor
