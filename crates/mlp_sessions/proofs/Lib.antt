pub mod NoUnit
pub mod ListSteps
pub mod ListFollows
pub mod Rates
pub mod DecoderSteps
pub mod PlaySteps
pub mod PlayFollows
