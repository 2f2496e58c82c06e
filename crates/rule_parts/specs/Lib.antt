pub mod Captures
pub mod Starts
pub mod CodeExps
