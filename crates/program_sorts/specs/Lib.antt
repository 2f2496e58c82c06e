pub mod Sorts
pub mod CodeSorts
