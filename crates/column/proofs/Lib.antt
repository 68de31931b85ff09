pub mod ColumnLaws
pub mod CallLaws
pub mod SlotLaws
