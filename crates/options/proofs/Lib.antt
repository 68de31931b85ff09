pub mod MemberLaws
pub mod MoveLaws
pub mod Laws
