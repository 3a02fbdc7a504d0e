pub mod Parts
pub mod OneFile
pub mod SavedLaws
pub mod FileLaw
