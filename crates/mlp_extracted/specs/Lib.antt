pub mod Lower
pub mod Extracted
