pub mod CommandText
pub mod CommandReading
pub mod CodeCommandRows
pub mod CodeWriting
pub mod Answer
