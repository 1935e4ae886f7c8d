pub mod PrintedNodes
pub mod Passes
pub mod KindLines
pub mod DataTypes
pub mod CuringLaws
pub mod AlikeLaws
