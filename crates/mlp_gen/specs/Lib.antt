pub mod Generator
pub mod Player
pub mod Report
pub mod Generated
