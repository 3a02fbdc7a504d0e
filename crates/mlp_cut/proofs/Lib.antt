pub mod Pieces
pub mod CutLaws
pub mod OwnBytes
pub mod CutterLaws
pub mod CutterSteps
