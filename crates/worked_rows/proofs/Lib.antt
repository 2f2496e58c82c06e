pub mod End
pub mod CEnd
pub mod SimplEnd
pub mod ProgramEnd
pub mod Computed
pub mod ComputedProgram
pub mod ComputedObjects
