pub mod Next
pub mod Outlining
