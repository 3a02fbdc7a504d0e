pub mod Parts
pub mod EncodeSteps
pub mod Sending
pub mod Outcomes
pub mod Answered
pub mod Doing
pub mod RawRuns
pub mod WaveRuns
