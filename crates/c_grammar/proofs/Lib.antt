mod Steps
mod Reading
mod Statements
pub mod Texts
mod Means
mod SoundExpressions
mod SoundTypes
mod SoundStatements
mod SoundExternals
mod Sound
pub mod Accepted
mod Ended
pub mod Replayed
pub mod Place
pub mod Kept
pub mod Samples
