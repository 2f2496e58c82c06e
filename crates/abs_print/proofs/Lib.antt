pub mod Along
pub mod Shapes
pub mod Margins
pub mod Seen
