pub mod ArcLaws
