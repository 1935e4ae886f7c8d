pub mod NamesThere
pub mod DeclarationRules
pub mod InitialiserRules
pub mod StatementRules
