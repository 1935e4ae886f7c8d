pub mod Elements
pub mod FramesNamed
pub mod MemberNodes
pub mod NamesAlike
pub mod ObjectsAlike
pub mod PiecesReady
pub mod SitesTold
pub mod UnionsTold
