pub mod Lower
pub mod Portions
pub mod Moved
pub mod Extraction
pub mod Again
pub mod ExLaw
pub mod Timing
