pub mod KindLaws
pub mod PartLaws
pub mod SequencesRead
pub mod Writing
pub mod MonRows
pub mod MonLaws
pub mod ReadBack
