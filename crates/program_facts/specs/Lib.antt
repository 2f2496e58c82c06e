pub mod Flow
pub mod Lasting
pub mod Places
pub mod Substituted
pub mod CodeParts
