pub mod Cut
pub mod Cutting
pub mod Cutter
pub mod SessionLaws
pub mod Laws
