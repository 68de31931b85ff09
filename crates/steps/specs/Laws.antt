pub mod Next
pub mod Led
pub mod Visiting
pub mod Calls
pub mod Crossing
