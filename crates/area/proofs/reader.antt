pub mod Attributes
mod Onward
