pub mod CodeCalls
pub mod CodeStatements
pub mod CodeKeys
pub mod CodeLabels
