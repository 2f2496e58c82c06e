pub mod HasTexts
