pub mod Filled
pub mod Table
