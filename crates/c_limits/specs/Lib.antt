pub mod FirstToken
pub mod Limits
pub mod CodeLevels
pub mod LimitsExamples
pub mod CodeRoles
pub mod CodeMeasure
pub mod CodeBounds
