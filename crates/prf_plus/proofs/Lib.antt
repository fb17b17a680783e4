pub mod Lists
pub mod Laws
pub mod Accepted
mod Steps
mod Parts
