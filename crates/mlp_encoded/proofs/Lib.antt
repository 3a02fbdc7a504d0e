pub mod WholeStreams
pub mod OneAnswer
pub mod Bytes
