pub mod Lanes
pub mod Whole
