pub mod Guarded
pub mod Labelled
pub mod AtLevels
pub mod GeneratedUnit
pub mod Small
