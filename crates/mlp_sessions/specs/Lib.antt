pub mod ListLine
pub mod Listing
pub mod ListLaws
pub mod Playing
pub mod PlayLaws
