pub mod Numbers
pub mod Values
pub mod Words
pub mod Lines
pub mod Run
