pub mod OneEnd
pub mod Continues
pub mod WatchedValue
pub mod WatchedRun
pub mod Filled
