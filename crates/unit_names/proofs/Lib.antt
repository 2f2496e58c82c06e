pub mod NumberedNames
