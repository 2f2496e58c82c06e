pub mod Rounds
pub mod StepLists
pub mod Seconds
