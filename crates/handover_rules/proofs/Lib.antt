pub mod Accepting
pub mod Apart
pub mod Keys
