pub mod TypesAlike
pub mod PartsThere
pub mod PartsAlike
pub mod OperatorRules
pub mod ConversionRules
pub mod CallRules
pub mod DeclaratorRules
pub mod MadeAlike
