pub mod Coding
pub mod Frames
pub mod Block
pub mod Lookups
