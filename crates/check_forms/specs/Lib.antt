pub mod FirstBad
pub mod FirstOr
pub mod Laws
