pub mod ValueText
pub mod MemoryText
pub mod ValueReading
pub mod MemoryReading
pub mod CodeTypes
pub mod CodeMemory
pub mod Answer
