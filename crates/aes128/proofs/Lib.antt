pub mod Fours
mod Rounds
