pub mod Known
pub mod Rewritten
pub mod Shortened
pub mod CodePoint
pub mod CodeExpSteps
pub mod CodeProgramSteps
pub mod CodeProgramStepsView
