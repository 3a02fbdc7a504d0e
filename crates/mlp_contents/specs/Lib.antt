pub mod Known
pub mod Frames
pub mod Units
pub mod Inner
pub mod Read
