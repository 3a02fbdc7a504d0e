pub mod Channels
pub mod Columns
pub mod Given
pub mod Playing
