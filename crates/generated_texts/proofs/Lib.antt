pub mod NumberTexts
pub mod PathNumbers
pub mod ExpressionTexts
pub mod CommandTexts
pub mod UnitTexts
