pub mod Numbers
pub mod Copied
