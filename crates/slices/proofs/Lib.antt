pub mod Truth
pub mod Lists
pub mod Copies
pub mod Same
pub mod Bytes
pub mod Numbers
