pub mod Induction
pub mod Checking
pub mod Parts
pub mod Walk
pub mod WalkedParts
