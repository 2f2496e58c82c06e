pub mod LongFunctions
pub mod Complete
mod Files
pub mod Told
pub mod Texts
pub mod Translated
pub mod Shown
pub mod Tried
pub mod NamedLevels
pub mod MadeLevels
