pub mod Naming
pub mod Lengths
