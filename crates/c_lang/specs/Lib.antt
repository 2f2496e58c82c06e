pub mod Typed
pub mod CodeTyped
pub mod Cast
pub mod Labels
pub mod WellTyped
pub mod Numbers
