pub mod PartLaws
pub mod CommandRows
pub mod SequencesRead
pub mod Writing
pub mod CommandLaws
pub mod ReadBack
