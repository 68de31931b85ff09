pub mod Read
pub mod Gather
