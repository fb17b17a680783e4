pub mod Internal
pub mod Walks
