pub mod Rules
pub mod ObjectLaws
pub mod StartLaws
pub mod CopyLaws
