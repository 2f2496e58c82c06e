pub mod HasNames
