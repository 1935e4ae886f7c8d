pub mod NameLaws
pub mod Rules
pub mod SiteLaws
