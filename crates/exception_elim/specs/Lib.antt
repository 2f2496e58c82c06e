pub mod CodeDone
pub mod CodeFront
