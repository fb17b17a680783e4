pub mod Rfc5448
pub mod Answers
pub mod Negotiation
pub mod Statements
