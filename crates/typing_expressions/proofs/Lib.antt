pub mod Steps
pub mod Conversions
pub mod Casts
pub mod Enumerated
