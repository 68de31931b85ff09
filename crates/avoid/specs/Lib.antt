pub mod Avoiding
pub mod Calls
pub mod Known
pub mod Laws
