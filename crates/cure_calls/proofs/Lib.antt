pub mod CallLaws
pub mod FrameLaws
