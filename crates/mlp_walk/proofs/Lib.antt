pub mod NextLaws
pub mod WalkLaws
pub mod SegmentLoops
