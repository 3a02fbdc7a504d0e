pub mod Sizes
pub mod Sides
pub mod Moves
pub mod Streams
pub mod Held
pub mod Gathers
pub mod Growing
pub mod Pumped
