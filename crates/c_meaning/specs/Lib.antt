pub mod CValue
pub mod CRun
pub mod Levels
pub mod Fitting
pub mod Kinds
