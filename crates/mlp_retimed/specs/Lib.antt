pub mod Plays
pub mod Fits
pub mod Stops
