pub mod NextLaws
pub mod LedLaws
pub mod CrossingLaws
