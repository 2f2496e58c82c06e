pub mod Locals
pub mod Guarded
pub mod Cost
pub mod CodeRun
pub mod CodeMachine
