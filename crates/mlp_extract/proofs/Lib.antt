pub mod UnitBytes
pub mod Given
pub mod ExtractSteps
pub mod ExtractFollows
pub mod ExtractLaws
