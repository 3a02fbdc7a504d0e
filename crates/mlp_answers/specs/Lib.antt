pub mod Working
pub mod Answers
pub mod Works
pub mod Reading
pub mod Follows
pub mod Failures
