mod Expansion
mod Words
