pub mod CodeTold
pub mod CodeSorted
pub mod CodeInside
