pub mod Sizes
pub mod Prefixes
pub mod PointerKinds
pub mod Below
pub mod Adding
pub mod Standing
pub mod Labelled
pub mod Depths
