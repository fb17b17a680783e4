pub mod Forms
pub mod Faults
