pub mod FirstOr
