pub mod CodeUnit
