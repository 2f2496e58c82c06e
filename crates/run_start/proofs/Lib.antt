pub mod Structs
pub mod OneByOne
pub mod Shaped
pub mod Runs
pub mod Settings
pub mod Begins
pub mod Lists
pub mod Found
