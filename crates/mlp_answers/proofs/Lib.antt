pub mod Deciding
pub mod OneAnswer
pub mod RunLaws
pub mod ReadingLaws
pub mod SomeAnswer
