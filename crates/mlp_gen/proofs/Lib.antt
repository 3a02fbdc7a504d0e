pub mod Samples
pub mod UnitFrames
pub mod Taking
pub mod Playing
pub mod Underway
pub mod Ends
pub mod OneText
