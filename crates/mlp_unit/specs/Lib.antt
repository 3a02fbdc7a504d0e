pub mod Directory
pub mod AccessUnit
pub mod Frame
pub mod Shape
pub mod Written
pub mod Extracted
pub mod Laws
pub mod Outline
