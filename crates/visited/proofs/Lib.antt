pub mod Separation
