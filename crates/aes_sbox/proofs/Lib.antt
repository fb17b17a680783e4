mod Inverses
pub mod Table
pub mod Tables
