pub mod Parts
pub mod Whole
pub mod Top
pub mod Keeping
pub mod Running
