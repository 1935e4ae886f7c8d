pub mod NodeCells
mod StopLaws
pub mod LayoutLaws
pub mod CopyLaws
