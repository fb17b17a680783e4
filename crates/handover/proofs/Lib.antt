mod Front
mod Derived
mod Names
