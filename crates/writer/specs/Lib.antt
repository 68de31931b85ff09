pub mod Put
pub mod Block
pub mod File
