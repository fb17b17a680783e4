pub mod Shown
mod Deriving
