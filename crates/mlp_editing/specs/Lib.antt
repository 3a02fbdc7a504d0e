pub mod Copying
pub mod CopyLaws
pub mod Told
pub mod Mended
