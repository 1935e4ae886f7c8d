pub mod RuntimeLaws
pub mod ConvertLaws
pub mod AllocateLaws
pub mod Rules
