pub mod Checks
pub mod Restarts
pub mod Blocks
pub mod Segment
pub mod Playable
pub mod Timings
