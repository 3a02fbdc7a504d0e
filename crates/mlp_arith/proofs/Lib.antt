pub mod Floors
pub mod Residues
pub mod Computed
