pub mod SwappedNames
pub mod GlobalsSoFar
pub mod NamedParameters
pub mod KeptConstants
