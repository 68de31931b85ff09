pub mod Calls
pub mod Sums
pub mod Rows
pub mod Laws
