pub mod SlotLaws
pub mod SeriesLaws
pub mod LiteralLaws
pub mod DeclaratorLaws
