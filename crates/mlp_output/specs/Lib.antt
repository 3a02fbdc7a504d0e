pub mod Output
pub mod Places
pub mod Frames
