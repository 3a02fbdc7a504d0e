pub mod Codes
pub mod Counting
pub mod FrameLaws
pub mod FrameWriting
pub mod StepLaws
pub mod WidthLaws
pub mod AheadLaws
pub mod RunLaws
