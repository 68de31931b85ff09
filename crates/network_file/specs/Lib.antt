pub mod Struct
pub mod Held
pub mod Entry
pub mod Load
pub mod Laws
