pub mod EveryLaws
pub mod LinkLaws
pub mod LsaLaws
pub mod RunLaws
pub mod NewLaws
pub mod FieldLaws
