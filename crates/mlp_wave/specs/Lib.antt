pub mod WaveFile
pub mod Saved
pub mod Laws
