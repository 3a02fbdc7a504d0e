pub mod Interval
pub mod Recovered
pub mod Spans
pub mod Sync
pub mod Reading
pub mod Laws
