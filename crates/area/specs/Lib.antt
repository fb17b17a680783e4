pub mod Area
pub mod Internal
