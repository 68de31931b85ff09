pub mod CheckLaws
pub mod LanesLaws
