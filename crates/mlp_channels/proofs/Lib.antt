pub mod GivenRanges
pub mod ColumnLaws
pub mod CodedLaws
pub mod HeadLaws
pub mod ChannelLoop
pub mod BlockLoop
pub mod FrameLaws
pub mod UnitLaws
