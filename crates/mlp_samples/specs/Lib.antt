pub mod Samples
pub mod Leaving
pub mod Behind
