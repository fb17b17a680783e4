pub mod Accepting
pub mod Separation
pub mod Domains
pub mod Requests
pub mod Rooms
