pub mod CodeParameters
pub mod CodeGlobals
