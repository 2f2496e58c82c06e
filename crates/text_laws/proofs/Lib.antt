pub mod Atoms
pub mod ExpTrees
pub mod ProgramTrees
pub mod RuleTrees
pub mod CertificateTrees
