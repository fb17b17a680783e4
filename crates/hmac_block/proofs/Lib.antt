pub mod Filling
mod Masking
