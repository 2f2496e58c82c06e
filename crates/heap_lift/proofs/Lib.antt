pub mod TreeLists
pub mod LiftedShape
pub mod ExpFronts
pub mod ListLaws
pub mod PlainLaws
pub mod PairLaws
pub mod ProgramLaws
pub mod Translated
