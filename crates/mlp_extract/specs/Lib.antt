pub mod Extract
pub mod Extracting
pub mod Extractor
pub mod SessionLaws
pub mod Laws
