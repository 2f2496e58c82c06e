pub mod Capturing
pub mod StartNames
