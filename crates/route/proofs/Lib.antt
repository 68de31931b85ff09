pub mod LegLaws
pub mod ProgressLaws
pub mod PlayLaws
pub mod RouteLaws
pub mod HandedLaws
pub mod MoveLaws
