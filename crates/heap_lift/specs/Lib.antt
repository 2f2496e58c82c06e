pub mod CodeTrees
pub mod Lifted
pub mod CodeExps
pub mod CodeLifted
