pub mod First
pub mod Rows
pub mod Sized
