pub mod FirstBytes
pub mod OpenLaws
pub mod NextParts
pub mod Outlines
