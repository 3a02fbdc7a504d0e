pub mod Prediction
pub mod Filters
pub mod Outputs
pub mod Lines
