pub mod Initialisers
pub mod SizedForms
pub mod HomeLaws
pub mod DeclarationSteps
pub mod StatementValues
pub mod StatementSteps
pub mod ScopesOnce
pub mod UnitSteps
