pub mod CodeAtLevels
pub mod CodeJump
pub mod CodeAdded
