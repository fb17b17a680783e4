pub mod Bits
pub mod Rotations
pub mod Padding
pub mod Blocks
mod Schedule
pub mod Sha1Schedule
pub mod Sha1Rounds
pub mod Sha256Schedule
pub mod Stream
pub mod Absorbing
pub mod Closing
pub mod Marked
pub mod Digests
