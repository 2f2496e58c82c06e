pub mod Sentences
pub mod Usage
pub mod Fault
pub mod Remark
pub mod CodeLook
pub mod Rows
pub mod CodeRefused
