pub mod Report
pub mod Checking
pub mod Check
pub mod CheckLaws
pub mod Runs
pub mod Laws
