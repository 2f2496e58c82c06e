pub mod Few
pub mod HasTexts
