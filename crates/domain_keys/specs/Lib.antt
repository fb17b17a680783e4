pub mod Rfc5296
