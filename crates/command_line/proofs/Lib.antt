pub mod WordLists
pub mod Stripped
pub mod Digits
pub mod UnknownNames
