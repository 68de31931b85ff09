pub mod PartLaws
pub mod LoadLaws
