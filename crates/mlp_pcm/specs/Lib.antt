pub mod Samples
pub mod WaveHeader
pub mod WaveFormat
pub mod WaveScan
pub mod WaveBytes
pub mod WaveFile
