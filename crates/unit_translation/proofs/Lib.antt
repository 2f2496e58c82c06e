pub mod ReadyToLift
pub mod LastUnit
pub mod LevelsThere
pub mod Formed
pub mod StepsMade
