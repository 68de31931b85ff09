pub mod Asked
pub mod Texts
