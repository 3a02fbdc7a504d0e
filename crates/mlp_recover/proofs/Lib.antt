pub mod Fronts
pub mod Intervals
pub mod Pieces
pub mod Syncs
pub mod Steps
pub mod Finding
pub mod SomePieces
pub mod Checks
