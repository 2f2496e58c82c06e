pub mod CodeRan
