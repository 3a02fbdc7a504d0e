pub mod Rates
pub mod Restarts
pub mod Timings
pub mod Reports
pub mod CheckSteps
pub mod CheckFollows
pub mod ReportLaws
