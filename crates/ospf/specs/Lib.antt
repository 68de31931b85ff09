pub mod Order
pub mod Lsa
pub mod Run
pub mod Means
pub mod Network
pub mod Import
pub mod Promises
