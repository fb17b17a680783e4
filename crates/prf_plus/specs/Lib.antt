pub mod PrfPlus
pub mod Statements
