pub mod Streams
pub mod Following
pub mod Timings
pub mod Lossless
pub mod Rooms
pub mod Chosen
pub mod Next
