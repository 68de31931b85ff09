pub mod RankLaws
pub mod RowLaws
