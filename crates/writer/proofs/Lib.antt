pub mod PutLaws
pub mod EntryLaws
pub mod TurnLaws
pub mod BlockLaws
pub mod FileLaws
pub mod ComposeLaws
pub mod WriteLaws
