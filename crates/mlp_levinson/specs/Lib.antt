pub mod Computed
pub mod Best
