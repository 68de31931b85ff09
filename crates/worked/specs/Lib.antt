pub mod Tables
pub mod HandWorked
pub mod Drills
