pub mod Top
pub mod Retimed
pub mod Retiming
pub mod Stamping
pub mod Retimer
pub mod SessionLaws
pub mod Runs
pub mod Laws
