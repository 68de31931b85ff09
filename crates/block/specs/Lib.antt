pub mod First
pub mod Head
pub mod Judged
pub mod Laws
