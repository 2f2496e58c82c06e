pub mod UnitText
