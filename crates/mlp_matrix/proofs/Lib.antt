pub mod Weights
pub mod Rows
pub mod Lifts
pub mod Noises
pub mod Fronts
