pub mod Arguments
pub mod Lists
pub mod Groups
pub mod Keys
pub mod ForStatement
pub mod DepthOfTheRest
