pub mod Turning
pub mod Taken
pub mod Laws
