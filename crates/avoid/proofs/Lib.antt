pub mod SetLaws
pub mod CallLaws
