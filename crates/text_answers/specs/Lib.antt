pub mod TextAnswer
pub mod CodeTrees
