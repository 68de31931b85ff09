pub mod Steps
pub mod Crossing
pub mod Laws
