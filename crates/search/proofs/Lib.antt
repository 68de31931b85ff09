pub mod HopLaws
pub mod SpaceLaws
pub mod ChoiceLaws
pub mod EndLaws
pub mod Laws
