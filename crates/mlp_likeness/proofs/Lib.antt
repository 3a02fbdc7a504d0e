pub mod Restarting
pub mod Anew
pub mod Likeness
pub mod OwnText
pub mod CutLaw
pub mod Outers
