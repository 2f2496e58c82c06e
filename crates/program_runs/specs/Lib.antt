pub mod WideRun
pub mod Bound
pub mod Machine
pub mod CodeRun
