pub mod Walking
pub mod Outside
pub mod Macs
pub mod Placing
pub mod Shown
pub mod Cases
