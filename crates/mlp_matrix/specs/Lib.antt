pub mod Noise
pub mod Matrix
pub mod Front
