pub mod Texts
pub mod Expressions
pub mod Programs
pub mod CodeEndings
pub mod CodeFronts
pub mod CodeLast
pub mod CodeLines
