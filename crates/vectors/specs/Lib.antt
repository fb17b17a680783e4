pub mod Fips180Examples
pub mod Sha1Examples
