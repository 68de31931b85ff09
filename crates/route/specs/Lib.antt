pub mod Leg
pub mod Answer
pub mod Put
