pub mod List
pub mod Select
pub mod Set
pub mod Fit
pub mod Columns
pub mod Column
pub mod Area
pub mod RightTable
