pub mod Loaded
pub mod Posed
