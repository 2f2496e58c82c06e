pub mod AskedPush
pub mod Translated
pub mod WithFronts
