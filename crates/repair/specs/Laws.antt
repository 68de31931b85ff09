pub mod Told
pub mod Named
pub mod Searched
pub mod Answered
