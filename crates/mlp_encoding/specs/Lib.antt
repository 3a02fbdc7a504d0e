pub mod Pcm
pub mod Encoding
pub mod Encoded
pub mod Encodes
pub mod Wave
pub mod Sizes
pub mod EncodeLaws
