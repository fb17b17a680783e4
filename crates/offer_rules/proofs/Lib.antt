pub mod Positions
pub mod Accepted
pub mod OffersKept
pub mod Statements
pub mod Rounds
