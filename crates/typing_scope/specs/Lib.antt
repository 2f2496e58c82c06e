pub mod CodeScope
pub mod CodeDeclared
pub mod CodeFields
pub mod CodeInFront
