pub mod Profile
pub mod Mix
pub mod Rows
pub mod Undone
pub mod Substreams
pub mod Sums
