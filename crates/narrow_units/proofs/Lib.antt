pub mod Magnitudes
pub mod NarrowValues
pub mod NarrowGuards
pub mod NarrowCommands
pub mod NarrowUnits
