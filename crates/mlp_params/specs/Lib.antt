pub mod RestartHeader
pub mod Filters
pub mod Matrices
pub mod Groups
pub mod Parameters
pub mod InForce
pub mod Applied
pub mod States
