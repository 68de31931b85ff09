pub mod ReadLaws
pub mod Laws
