pub mod StoreLaws
pub mod DirectLaws
pub mod RowLaws
pub mod EliminationLaws
pub mod BoundLaws
pub mod CloseLaws
pub mod AreaLaws
