pub mod Labels
pub mod DomainLabel
