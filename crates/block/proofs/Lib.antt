pub mod BlockLaws
pub mod HeadLaws
pub mod JudgedLaws
