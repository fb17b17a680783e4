pub mod Same
pub mod Numbers
pub mod Ascii
pub mod Bytes
pub mod Parts
