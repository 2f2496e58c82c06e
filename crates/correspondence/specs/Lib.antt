pub mod Outcome
pub mod Bound
pub mod Corresponds
pub mod OneEnd
pub mod Always
pub mod Included
pub mod Related
