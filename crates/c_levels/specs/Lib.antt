pub mod CodeModes
pub mod CodeSpread
pub mod CodeCalls
pub mod CodeReason
