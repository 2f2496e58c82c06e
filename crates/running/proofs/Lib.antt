pub mod RunDone
pub mod Agree
mod Globals
mod Starts
mod CRuns
mod ProgramRuns
mod BothSides
mod Answered
