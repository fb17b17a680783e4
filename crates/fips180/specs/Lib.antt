pub mod Words
pub mod Hash
pub mod Sha1
pub mod Sha256
pub mod Stream
pub mod Window
pub mod Statements
pub mod Internal
