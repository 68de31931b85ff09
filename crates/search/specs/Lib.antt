pub mod Hops
pub mod Spaces
pub mod Choice
pub mod Calls
