pub mod StayLaws
pub mod LabelLaws
pub mod DefinitionLaws
pub mod LeaveLaws
pub mod WholeLaws
pub mod UnitFacts
