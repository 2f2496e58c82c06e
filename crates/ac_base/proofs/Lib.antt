pub mod Faults
pub mod Front
pub mod Rest
pub mod Taken
