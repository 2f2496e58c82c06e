pub mod Kinds
pub mod MonText
pub mod MonReading
pub mod CodeMonRows
pub mod CodeWriting
pub mod Answer
