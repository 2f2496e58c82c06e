pub mod BodyNames
pub mod TextAnswer
