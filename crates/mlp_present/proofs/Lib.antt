pub mod Joined
pub mod WaitLaws
pub mod Histories
